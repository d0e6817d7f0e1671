-- The variables of a part, by their names.
use Rattle.std.specs.Prelude.{◌≡◌, List}
use Rattle.gq_text.specs.declared.place.Span.{Span}
use Rattle.gq_names.specs.UnderNames.{items_under}
use Rattle.gq_tree.specs.Plain.{NameOf}
use Rattle.gq_types.specs.Entries.{Text}
use Rattle.gq_index.specs.declared.index.Variables.{Variables}
use Rattle.gq_index.specs.Occurrences.{places_called}

-- the places of variables of which these are the names where they are used, and where they are defined
pub record AreVariablesNamed (used defined : List (NameOf Span)) (v : Variables) : Type 0 where
  pub uses : (text : Text) → items_under v.uses text ≡ places_called text used
  pub definitions : (text : Text) → items_under v.definitions text ≡ places_called text defined
