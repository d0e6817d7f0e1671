use Rattle.gq_fault.proofs.CodeLemmas.{one_code}
use Rattle.gq_fault.proofs.laws.numbers_tell_codes.Goals as goal

pub returns : goal.returns
returns c = one_code
