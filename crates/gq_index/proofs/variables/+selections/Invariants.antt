use Rattle.std.proofs.Common.{◌≡◌, ◌++◌, drop}
use Rattle.gq_tree.specs.Names.{names_at}
use Rattle.gq_tree.specs.Views.{sels_view}
use Rattle.gq_index.specs.VariableNames.{selection_variables}
use Rattle.gq_index.proofs.variables.+selections.Given as goal

abbrev pub invariant-put_selections-loop-selection : goal.invariant-put_selections-loop-selection
invariant-put_selections-loop-selection l =
    names_at l.names.items ++ selection_variables (sels_view (drop l.selection-index l.selections)) ≡ names_at l.initial.names.items ++ selection_variables (sels_view l.selections)
