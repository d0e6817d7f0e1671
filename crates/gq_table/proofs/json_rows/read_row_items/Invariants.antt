use Rattle.std.proofs.Common.{◌≡◌, ◌++◌, drop, option_map}
use Rattle.serde_json.specs.View.{items_view}
use Rattle.gq_table.specs.Views.{rows_view}
use Rattle.gq_table.specs.Json.{rows_in}
use Rattle.gq_table.proofs.json_rows.read_row_items.Given as goal

-- what all of them are is what was read, and behind it what the others are
abbrev pub invariant-loop-item : goal.invariant-loop-item
invariant-loop-item l =
    rows_in (items_view l.items) ≡ option_map (λ others. rows_view l.rows.items ++ others) (rows_in (items_view (drop l.item-index l.items)))
