use Rattle.gq_parse.proofs.OneReading.{one_reading}
use Rattle.gq_parse.proofs.laws.documents_have_one_reading.Goals as goal

pub returns : goal.returns
returns c = one_reading c.one_tree.ensures c.one_fault.ensures.syntax c.one_fault.ensures.limit c.one_fault.ensures.not_both
