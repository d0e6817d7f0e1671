use Rattle.std.proofs.Common.{◌≡◌, length, map}
use Rattle.gq_tree.specs.Views.{field_definition_view}
use Rattle.gq_types.specs.Helping.Index.{AreNamesOfEach}
use Rattle.gq_types.proofs.argument_names.names_of_fields.Given as goal

-- each field so far has its names
abbrev pub invariant-loop-field : goal.invariant-loop-field
invariant-loop-field l = (length l.all.items ≡ l.field-index) × AreNamesOfEach (map (λ f. f.arguments) (map field_definition_view l.fields)) l.all.items
