use Rattle.std.proofs.Common.{◌≡◌, ◌++◌, map, drop, option_map}
use Rattle.serde_json.specs.View.{items_view}
use Rattle.gq_table.specs.Views.{answer_view}
use Rattle.gq_table.specs.Json.{result_items}
use Rattle.gq_table.proofs.json_rows.+outcome.Given as goal

-- what all of them are is what was read, and behind it what the others are
abbrev pub invariant-read_outcomes-loop-item : goal.invariant-read_outcomes-loop-item
invariant-read_outcomes-loop-item l =
    result_items (items_view l.items) ≡ option_map (λ others. map answer_view l.outcomes.items ++ others) (result_items (items_view (drop l.item-index l.items)))
