use Rattle.gq_laws.proofs.Cutting.InlinedTexts.{inlined_texts_read, texts_read_without_fragment, inlined_texts_read_without_fragment}
use Rattle.gq_laws.proofs.cuts_read.inlined_texts_read.Goals as goal

pub returns-clause-texts : goal.returns-clause-texts
returns-clause-texts c = inlined_texts_read

pub returns-clause-gone : goal.returns-clause-gone
returns-clause-gone c = texts_read_without_fragment

pub returns-clause-both : goal.returns-clause-both
returns-clause-both c = inlined_texts_read_without_fragment
