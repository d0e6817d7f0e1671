use Rattle.gq_lex.proofs.Readings.{one_reading}
use Rattle.gq_parse.proofs.UniqueDocuments.{same_document}
use Rattle.gq_parse.proofs.laws.one_tree.Goals as goal

pub returns : goal.returns
returns c = λ text a b x y. same_document x.derived (one_reading text x.tokens y.tokens x.reads y.reads) y.derived
