use Rattle.std.proofs.Common.{map, ◌≤◌, length}
use Rattle.gq_table.specs.Views.{value_view}
use Rattle.gq_coerce.specs.Coerced.{null_value}
use Rattle.gq_coerce.specs.Literals.{at_any}
use Rattle.gq_coerce.specs.Helping.Views.{setting_view}
use Rattle.gq_coerce.specs.Helping.Order.{in_order}
use Rattle.gq_coerce.proofs.Loops.{IsSoFar, AreFrom}
use Rattle.gq_coerce.proofs.Readings.{item_part, field_part}
use Rattle.gq_coerce.proofs.free.+free.Given as goal

abbrev pub invariant-free_items-loop-item : goal.invariant-free_items-loop-item
invariant-free_items-loop-item l = IsSoFar null_value (item_part (setting_view l.setting) at_any) l.items (map value_view l.values.items) l.item-index

abbrev pub decreases-free_entries-fields : goal.decreases-free_entries-fields
decreases-free_entries-fields l = l.left

abbrev pub invariant-free_entries-fields : goal.invariant-free_entries-fields
invariant-free_entries-fields l = AreFrom (field_part (setting_view l.setting) at_any) l.fields (in_order l.entries.items) l.left × (l.left ≤ length l.fields)
