use Rattle.std.proofs.Common.{◌≡◌, ◌++◌, drop, map, flat_map}
use Rattle.gq_tree.specs.Views.{field_definition_view}
use Rattle.gq_completion.specs.Helping.FieldNames.{own_name}
use Rattle.gq_completion.proofs.fields.put_own_names_at.Given as goal

abbrev pub invariant-loop-field : goal.invariant-loop-field
invariant-loop-field l =
    l.names.items ++ flat_map (λ f. own_name f.name.text) (map field_definition_view (drop l.field-index l.fields)) ≡ l.initial.names.items ++ flat_map (λ f. own_name f.name.text) (map field_definition_view l.fields)
