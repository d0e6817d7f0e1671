use Rattle.gq_lex.proofs.Faulting.{one_fault}
use Rattle.gq_lex.proofs.laws.one_fault.Goals as goal

pub returns : goal.returns
returns c = one_fault
