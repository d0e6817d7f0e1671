use Rattle.gq_types.proofs.NameLaws.{numbers_define}
use Rattle.gq_types.proofs.laws.numbers_define_types.Goals as goal

pub returns : goal.returns
returns c = numbers_define
