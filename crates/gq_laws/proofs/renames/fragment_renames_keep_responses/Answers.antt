use Rattle.gq_laws.proofs.Renaming.TakesSame.{takes_alike}
use Rattle.gq_laws.proofs.Renaming.ArgumentsSame.{arguments_alike}
use Rattle.gq_laws.proofs.Renaming.VariablesSame.{variables_alike}
use Rattle.gq_laws.proofs.Renaming.ValidityLemmas.{spreads_are_defined, no_document_is_mixed}
use Rattle.gq_laws.proofs.Renaming.Promises.{nothing_demanded}
use Rattle.gq_laws.proofs.Renaming.Keeping.{fragment_renames_keep}
use Rattle.gq_laws.proofs.renames.fragment_renames_keep_responses.Goals as goal

pub returns : goal.returns
returns c =
    let nothing = nothing_demanded c.no_project_is_valid_and_invalid.ensures in
    fragment_renames_keep c.one_tree.ensures (no_document_is_mixed nothing) (spreads_are_defined nothing) takes_alike arguments_alike variables_alike
