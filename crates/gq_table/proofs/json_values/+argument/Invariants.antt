use Rattle.std.proofs.Common.{◌≡◌, ◌++◌, map, drop, option_map}
use Rattle.serde_json.specs.View.{items_view, members_view}
use Rattle.gq_table.specs.Views.{value_view, entry_view}
use Rattle.gq_table.specs.Json.{argument_items, argument_entries}
use Rattle.gq_table.proofs.json_values.+argument.Given as goal

-- what all of them are is what was read, and behind it what the others are
abbrev pub invariant-read_argument_items-loop-item : goal.invariant-read_argument_items-loop-item
invariant-read_argument_items-loop-item l =
    argument_items (items_view l.items) ≡ option_map (λ others. map value_view l.values.items ++ others) (argument_items (items_view (drop l.item-index l.items)))

abbrev pub invariant-read_argument_entries-loop-name : goal.invariant-read_argument_entries-loop-name
invariant-read_argument_entries-loop-name l =
    argument_entries (members_view l.members.entries) ≡ option_map (λ others. map entry_view l.entries.items ++ others) (argument_entries (members_view l.name-iterator))
