use Rattle.gq_types.proofs.NameLaws.{types_have}
use Rattle.gq_types.proofs.laws.types_have_kinds.Goals as goal

pub returns : goal.returns
returns c = types_have
