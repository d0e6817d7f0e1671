-- The tables are those of the definitions of which these are the parts.
use Rattle.std.proofs.Common.{◌≡◌, ℕ, Vec, Global, List, ◌∙◌, map, subst, sym, ap}
use Rattle.std.proofs.lemmas.List.{length-map}
use Rattle.gq_graph.specs.Transposed.{Transposed}
use Rattle.gq_types.specs.Entries.{Text}
use Rattle.gq_index.specs.Helping.PlacedParts.{PartAt, part_at, parts_at, placed_view, definitions_at, spreads_at, names_at_all, places_at, operations_at}
use Rattle.gq_index.specs.Helping.SpreadNumbers.{fragment_numbers, spread_rows}
use Rattle.gq_index.specs.Helping.StandingParts.{parts_stand}
use Rattle.gq_index.specs.Standing.{StandsOf, stands}
use Rattle.gq_index.proofs.PartLemmas.{definitions_same, spreads_same, names_same, places_same, operations_same}
use Rattle.gq_index.proofs.SpreadLemmas.{rows_count, rows_hold}
use Rattle.gq_index.specs.declared.parts.Parts.{Parts}
use Rattle.gq_index.specs.declared.placed.Placed.{Placed}
use Rattle.gq_index.specs.Helping.Seats.{AreFound, seat_of}
use Rattle.gq_index.specs.Helping.SpreadPlaces.{ArePlaces, all_spreads}
use Rattle.gq_index.proofs.StandLemmas.{parts_are}
use Rattle.gq_index.proofs.VariableLemmas.{variables_same}
use Rattle.gq_index.proofs.making.made_of.Goals as goal

pub spread_rows-requires-clause-places : goal.spread_rows-requires-clause-places
spread_rows-requires-clause-places c =
    let names : List Text = c.args.gathered.fragments.names in
    subst (λ (ps : List Placed). ArePlaces names (all_spreads (placed_view ps)) c.deref-2.result.now) (sym c.deref.ensures.value)
    (subst (λ (ks : List ℕ). ArePlaces names (all_spreads (placed_view c.args.gathered.parts.items)) ks) (sym c.deref-2.ensures.value) c.requires.stand.1)

pub spread_rows-requires-clause-stand : goal.spread_rows-requires-clause-stand
spread_rows-requires-clause-stand c text =
    ap (λ (s : StandsOf). s.numbers) (c.requires.stand.0 text ∙ parts_are 0 (placed_view c.args.gathered.parts.items) text)
    ∙ ap (λ (ps : List Placed). fragment_numbers 0 (placed_view ps) text) (sym c.deref.ensures.value)

pub returns : goal.returns
returns c ds are =
    let stand : (text : Text) → stands c.args.gathered.fragments text ≡ record { definitions = definitions_at (parts_at ds) text; spreads = spreads_at (parts_at ds) text; occurrences = names_at_all (parts_at ds) text; numbers = fragment_numbers 0 (parts_at ds) text } =
    λ text. c.requires.stand.0 text ∙ ap (λ (ps : List PartAt). parts_stand 0 ps text) are ∙ parts_are 0 (parts_at ds) text in
    let rows = c.in_ok-spread_in.spread_in.items in
    let rows_are : map (λ v. v.items) rows ≡ spread_rows (parts_at ds) = c.in_ok-spread_in.ensures.rows ∙ ap (λ (ps : List Placed). spread_rows (placed_view ps)) c.deref.ensures.value ∙ ap (λ (ps : List PartAt). spread_rows ps) are in
    record {
      definitions = λ text. ap (λ (s : StandsOf). s.definitions) (stand text) ∙ definitions_same ds text;
      spreads = λ text. ap (λ (s : StandsOf). s.spreads) (stand text) ∙ spreads_same ds text;
      occurrences = λ text. ap (λ (s : StandsOf). s.occurrences) (stand text) ∙ names_same ds text;
      places = c.in_ok-definition_places.ensures ∙ ap (λ (ps : List Placed). places_at (placed_view ps)) c.deref-4.ensures.value ∙ ap (λ (ps : List PartAt). places_at ps) are ∙ places_same ds;
      variables = variables_same ds c.args.gathered.parts.items _ are (subst (λ (kept : List Parts). AreFound kept c.args.gathered.parts.items) (sym c.in_ok-kept_of.ensures) c.requires.found)
          (c.in_ok-seats_of.ensures ∙ ap (map seat_of) c.deref-5.ensures.value);
      count = rows_count (parts_at ds) rows rows_are ∙ length-map ds part_at;
      spread_in = rows_hold ds rows rows_are;
      spreading = subst (λ (table : List (Vec ℕ Global)). Transposed table c.in_ok-spreading.spreading.items) c.deref-3.ensures.value c.in_ok-spreading.ensures;
      operations = c.in_ok-are_operations.ensures ∙ ap (λ (ps : List Placed). operations_at (placed_view ps)) c.deref-6.ensures.value ∙ ap (λ (ps : List PartAt). operations_at ps) are ∙ operations_same ds;
    }
