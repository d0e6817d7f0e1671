use Rattle.std.proofs.Common.{◌≡◌, ◌++◌, drop}
use Rattle.gq_names.specs.UnderNames.{items_under}
use Rattle.gq_types.specs.Entries.{Text}
use Rattle.gq_index.specs.Occurrences.{places_called}
use Rattle.gq_index.specs.Views.{names_view}
use Rattle.gq_index.proofs.places.places_of.Given as goal

abbrev pub invariant-loop-name : goal.invariant-loop-name
invariant-loop-name l = (text : Text) → items_under l.places text ++ places_called text (names_view (drop l.name-index l.names)) ≡ places_called text (names_view l.names)
