use Rattle.std.proofs.Common.{◌+◌, ◌*◌, map, ◌≤◌, length}
use Rattle.gq_tree.specs.Views.{type_view}
use Rattle.gq_table.specs.Views.{value_view, values_view, entries_view}
use Rattle.gq_coerce.specs.Coerced.{fault}
use Rattle.gq_coerce.specs.Helping.Views.{setting_view, raw_seen}
use Rattle.gq_coerce.specs.Helping.Heights.{height, raw_weight}
use Rattle.gq_coerce.specs.Helping.Order.{in_order}
use Rattle.gq_coerce.proofs.Loops.{IsSoFar, AreFrom}
use Rattle.gq_coerce.proofs.RawReadings.{raw_part, raw_input_of}
use Rattle.gq_coerce.proofs.raw.+raw.Given as goal

abbrev pub decreases-raw_value : goal.decreases-raw_value
decreases-raw_value l = 8 * height (value_view l.value.now).below + 6

abbrev pub decreases-single : goal.decreases-single
decreases-single l = 8 * height (value_view l.value.now).below + 5

abbrev pub decreases-at_name : goal.decreases-at_name
decreases-at_name l = 8 * height (value_view l.value.now).below + 4

abbrev pub decreases-raw_items : goal.decreases-raw_items
decreases-raw_items l = 8 * height (values_view l.items.now) + 3

abbrev pub decreases-raw_entries : goal.decreases-raw_entries
decreases-raw_entries l = 8 * height (entries_view l.given.now) + 3

abbrev pub decreases-raw_input : goal.decreases-raw_input
decreases-raw_input l = raw_weight (raw_seen l.value)

abbrev pub invariant-raw_items-loop-item : goal.invariant-raw_items-loop-item
invariant-raw_items-loop-item l = IsSoFar fault (raw_part (setting_view l.setting) (type_view l.type_ref)) l.items (map value_view l.values.items) l.item-index

abbrev pub decreases-raw_entries-inputs : goal.decreases-raw_entries-inputs
decreases-raw_entries-inputs l = l.left

abbrev pub invariant-raw_entries-inputs : goal.invariant-raw_entries-inputs
invariant-raw_entries-inputs l = AreFrom (raw_input_of (setting_view l.setting) l.given) l.definitions (in_order l.entries.items) l.left × (l.left ≤ length l.definitions)
