use Rattle.std.proofs.Common.{◌≡◌, ◌++◌, List, drop, take}
use Rattle.gq_text.specs.declared.place.Span.{Span}
use Rattle.gq_tree.specs.Plain.{NameOf}
use Rattle.gq_types.specs.Entries.{Text}
use Rattle.gq_index.specs.Helping.SpreadPlaces.{ArePlaces}
use Rattle.gq_index.specs.Helping.StandingParts.{both, spreads_stand}
use Rattle.gq_index.specs.Standing.{stands}
use Rattle.gq_index.specs.Views.{names_view}
use Rattle.gq_index.proofs.standing.put_spreads.Given as goal

abbrev pub invariant-loop-name : goal.invariant-loop-name
invariant-loop-name l =
    ((text : Text) → both (stands l.all text) (spreads_stand l.file text (names_view (drop l.name-index l.names))) ≡ both (stands l.initial.all text) (spreads_stand l.file text (names_view l.names)))
    × ((ns : List (NameOf Span)) → ArePlaces l.initial.all.names ns l.initial.places.items → ArePlaces l.all.names (ns ++ names_view (take l.name-index l.names)) l.places.items)
