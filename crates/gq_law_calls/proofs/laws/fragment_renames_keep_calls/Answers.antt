use Rattle.gq_laws.proofs.Renaming.Promises.{nothing_demanded}
use Rattle.gq_laws.proofs.Renaming.ValidityLemmas.{spreads_are_defined, no_document_is_mixed}
use Rattle.gq_law_calls.proofs.Renamed.{fragment_renames_keep_calls}
use Rattle.gq_law_calls.proofs.laws.fragment_renames_keep_calls.Goals as goal

pub returns : goal.returns
returns c =
    let nothing = nothing_demanded c.no_project_is_valid_and_invalid.ensures in
    fragment_renames_keep_calls c.one_tree.ensures (no_document_is_mixed nothing) c.requests_have_a_response.ensures (spreads_are_defined nothing)
