use Rattle.gq_laws.proofs.Cutting.ExtractedTexts.{extracted_texts_read}
use Rattle.gq_laws.proofs.cuts_read.extracted_texts_read.Goals as goal

pub returns : goal.returns
returns c = extracted_texts_read
