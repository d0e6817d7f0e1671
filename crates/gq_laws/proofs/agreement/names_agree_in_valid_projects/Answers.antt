use Rattle.gq_laws.proofs.Rewriting.ValidAgree.{agree_in_valid}
use Rattle.gq_laws.proofs.agreement.names_agree_in_valid_projects.Goals as goal

pub returns : goal.returns
returns c = agree_in_valid c.nothing_is_demanded_of_valid_projects.ensures
