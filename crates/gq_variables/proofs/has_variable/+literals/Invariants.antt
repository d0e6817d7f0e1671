use Rattle.std.proofs.Common.{◌≡◌, drop}
use Rattle.gq_tree.specs.Views.{values_view, entries_view}
use Rattle.gq_variables.specs.Helping.UsesNothing.{any_variable}
use Rattle.gq_variables.proofs.has_variable.+literals.Given as goal

abbrev pub invariant-any_has_variable-loop-value : goal.invariant-any_has_variable-loop-value
invariant-any_has_variable-loop-value l = any_variable (values_view (drop l.value-index l.values)) ≡ any_variable (values_view l.values)

abbrev pub invariant-any_field_has_variable-loop-field : goal.invariant-any_field_has_variable-loop-field
invariant-any_field_has_variable-loop-field l = any_variable (entries_view (drop l.field-index l.fields)) ≡ any_variable (entries_view l.fields)
