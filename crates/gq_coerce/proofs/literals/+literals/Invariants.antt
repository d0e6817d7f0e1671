use Rattle.std.proofs.Common.{◌+◌, map, ◌≤◌, length}
use Rattle.std.specs.Prelude.{max}
use Rattle.std.specs.Option.{option_map}
use Rattle.gq_tree.specs.Forest.{row}
use Rattle.gq_tree.specs.Views.{value_view, type_view}
use Rattle.gq_types.specs.Look.{types_view}
use Rattle.gq_table.specs.Views.{value_view as given_value}
use Rattle.gq_coerce.specs.Literals.{at_type, missing_item}
use Rattle.gq_coerce.specs.Helping.Views.{bare, setting_view, inputs_view, part_view, value_seen}
use Rattle.gq_coerce.specs.Helping.Heights.{height, height_of, deepest, weight, default_weight, given_weight}
use Rattle.gq_coerce.specs.Helping.Order.{in_order}
use Rattle.gq_coerce.proofs.Loops.{IsSoFar, AreFrom}
use Rattle.gq_coerce.proofs.Readings.{item_part, input_of}
use Rattle.gq_coerce.proofs.literals.+literals.Given as goal

abbrev pub decreases-literal_value : goal.decreases-literal_value
decreases-literal_value l = weight (types_view l.setting.types.now) l.setting.limit (height (bare l.literal.now).below) + 6

abbrev pub decreases-at_name : goal.decreases-at_name
decreases-at_name l = weight (types_view l.setting.types.now) l.setting.limit (height (bare l.literal.now).below) + 4

abbrev pub decreases-list_items : goal.decreases-list_items
decreases-list_items l = weight (types_view l.setting.types.now) l.setting.limit (height (row (map bare l.items.now))) + 3

abbrev pub decreases-input_entries : goal.decreases-input_entries
decreases-input_entries l =
    max (weight (types_view l.setting.types.now) l.setting.limit (height (row (map part_view l.parts.now)))) (default_weight (types_view l.setting.types.now) l.setting.limit (deepest (inputs_view l.definitions.now))) + 3

abbrev pub decreases-input_value : goal.decreases-input_value
decreases-input_value l =
    max (given_weight (types_view l.setting.types.now) l.setting.limit (value_seen l.literal)) (default_weight (types_view l.setting.types.now) l.setting.limit (height_of (option_map value_view l.definition.now.default))) + 2

abbrev pub decreases-or_default : goal.decreases-or_default
decreases-or_default l = default_weight (types_view l.setting.types.now) l.setting.limit (height_of (option_map value_view l.default.now)) + 1

abbrev pub decreases-default_value : goal.decreases-default_value
decreases-default_value l = default_weight (types_view l.setting.types.now) l.setting.limit (height_of (option_map value_view l.default.now))

abbrev pub invariant-list_items-loop-item : goal.invariant-list_items-loop-item
invariant-list_items-loop-item l =
    IsSoFar (missing_item (type_view l.type_ref)) (item_part (setting_view l.setting) (at_type (type_view l.type_ref))) l.items (map given_value l.values.items) l.item-index

abbrev pub decreases-input_entries-inputs : goal.decreases-input_entries-inputs
decreases-input_entries-inputs l = l.left

abbrev pub invariant-input_entries-inputs : goal.invariant-input_entries-inputs
invariant-input_entries-inputs l = AreFrom (input_of (setting_view l.setting) l.parts) l.definitions (in_order l.entries.items) l.left × (l.left ≤ length l.definitions)
