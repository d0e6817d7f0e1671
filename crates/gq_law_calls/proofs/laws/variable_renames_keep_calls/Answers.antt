use Rattle.gq_laws.proofs.Renaming.TakesSame.{takes_alike}
use Rattle.gq_laws.proofs.Renaming.ArgumentsSame.{arguments_alike}
use Rattle.gq_laws.proofs.Renaming.VariablesSame.{variables_alike}
use Rattle.gq_laws.proofs.Renaming.Promises.{nothing_demanded}
use Rattle.gq_laws.proofs.Renaming.ValidityLemmas.{variables_are_defined, no_document_is_mixed}
use Rattle.gq_law_calls.proofs.Renamed.{variable_renames_keep_calls}
use Rattle.gq_law_calls.proofs.laws.variable_renames_keep_calls.Goals as goal

pub returns : goal.returns
returns c =
    let nothing = nothing_demanded c.no_project_is_valid_and_invalid.ensures in
    variable_renames_keep_calls c.one_tree.ensures (no_document_is_mixed nothing) c.requests_have_a_response.ensures
    (λ documents readings valid are. variables_are_defined nothing documents readings valid are c.uses_are_those_of_the_rules.ensures) takes_alike arguments_alike variables_alike
