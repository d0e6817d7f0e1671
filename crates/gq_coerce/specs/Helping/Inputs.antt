-- The input fields of one entry of a type system.
use Rattle.std.specs.Prelude.{ℕ, List, [], slice_get}
use Rattle.std.specs.Option.{option_map_or}
use Rattle.gq_text.specs.declared.place.Span.{Span}
use Rattle.gq_tree.specs.Plain.{InputOf}
use Rattle.gq_types.specs.Entries.{EntryOf}
use Rattle.gq_types.specs.Joined.{inputs_in_body, body_in}

abbrev pub inputs_at : List EntryOf → ℕ → List (InputOf Span)
inputs_at es number = option_map_or (λ e. inputs_in_body (body_in e.definition)) (slice_get es number) []
