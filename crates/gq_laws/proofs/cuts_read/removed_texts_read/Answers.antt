use Rattle.gq_laws.proofs.Cutting.Removed.{removed_texts_read}
use Rattle.gq_laws.proofs.cuts_read.removed_texts_read.Goals as goal

pub returns : goal.returns
returns c = removed_texts_read
