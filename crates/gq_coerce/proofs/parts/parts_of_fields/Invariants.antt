use Rattle.std.proofs.Common.{◌≡◌, ◌++◌, drop, map}
use Rattle.gq_tree.specs.Plain.{erase_values}
use Rattle.gq_tree.specs.Views.{entry_view}
use Rattle.gq_coerce.specs.Helping.Views.{part_view}
use Rattle.gq_coerce.proofs.parts.parts_of_fields.Given as goal

abbrev pub invariant-loop-field : goal.invariant-loop-field
invariant-loop-field l = map part_view l.parts.items ++ erase_values (map entry_view (drop l.field-index l.fields)) ≡ erase_values (map entry_view l.fields)
