-- What comes of comparing two definitions, and two type systems.
use Rattle.std.specs.Prelude.{◌≡◌, ℕ, ◌++◌, List, [], ◌∷◌, true, map}
use Rattle.gq_text.specs.declared.place.Span.{Span}
use Rattle.gq_tree.specs.Plain.{TypeSystemOf, no_place, place_type_system}
use Rattle.gq_types.specs.Entries.{Text, EntryOf}
use Rattle.gq_laws.specs.Placing.ObjectTypes.{defines_object, DifferInObjects}
use Rattle.gq_laws.specs.Placing.OtherFields.{erase_without}
use Rattle.gq_kept.specs.declared.beside.Beside.{Beside}

-- They are equal but for places, and the numbers stay; or both define an object type, and their number comes behind the others.
pub data IsCompared (number : ℕ) (one other : TypeSystemOf Span) (before after : List ℕ) : Type 0 where
  alike : place_type_system no_place one ≡ place_type_system no_place other → after ≡ before → IsCompared number one other before after
  objects : defines_object one ≡ true → defines_object other ≡ true → after ≡ before ++ number ∷ [] → IsCompared number one other before after

-- the second type system differs from the first in fields of some names, and it is told where, as long as it is in object types alone
pub record DiffersFrom (es us : List EntryOf) (beside : Beside) : Type 0 where
  pub names : List Text
  pub others : map (erase_without names) es ≡ map (erase_without names) us
  pub objects : beside.are_objects ≡ true → DifferInObjects 0 es us beside.numbers.items
