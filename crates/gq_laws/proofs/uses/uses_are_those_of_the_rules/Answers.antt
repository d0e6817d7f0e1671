use Rattle.gq_laws.proofs.Renaming.UseLaws.{uses_are}
use Rattle.gq_laws.proofs.uses.uses_are_those_of_the_rules.Goals as goal

pub returns : goal.returns
returns c = uses_are
