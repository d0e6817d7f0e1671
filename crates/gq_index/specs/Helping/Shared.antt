-- What the tables of an index tell of a variable for the graph of its group.
use Rattle.std.specs.Prelude.{ℕ, Bool, false, not, nat_eq, length, slice_get}
use Rattle.std.specs.Option.{option_map_or}
use Rattle.gq_names.specs.UnderNames.{items_under}
use Rattle.gq_graph.specs.Reach.{row}
use Rattle.gq_types.specs.Entries.{Text}
use Rattle.gq_index.specs.declared.index.Tables.{Tables}
use Rattle.gq_index.specs.declared.index.Variables.{Variables}
use Rattle.gq_index.specs.Helping.GroupGraphs.{Sharing}
use Rattle.gq_index.specs.Seats.{variables_at}

abbrev pub operation_at : Tables → ℕ → Bool
operation_at tables n = option_map_or (λ b. b) (slice_get tables.operations.items n) false

abbrev pub uses_at : Tables → Text → ℕ → Bool
uses_at tables text n = option_map_or (λ (v : Variables). not (nat_eq (length (items_under v.uses text)) 0)) (variables_at tables n) false

abbrev pub shared : Tables → Text → Sharing
shared tables text = record {
  count = length tables.spread_in.items;
  spread_in = row tables.spread_in.items;
  spreading = row tables.spreading.items;
  is_operation = operation_at tables;
  uses = uses_at tables text;
}
