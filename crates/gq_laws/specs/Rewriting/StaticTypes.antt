-- Soundness of static types: where execution meets an object, its type is possible for the types that the documents show there (sections 5.3
-- and 6.3.2).
use Rattle.std.specs.Prelude.{◌≡◌, List, Option, Some}
use Rattle.gq_tree.specs.Plain.{erase_values}
use Rattle.gq_types.specs.Entries.{Text, EntryOf}
use Rattle.gq_types.specs.Possible.{IsPossible}
use Rattle.gq_document.specs.Executable.{ExecutableOf}
use Rattle.gq_document.specs.FieldSets.{SetOf, FieldAt, key, InSet, Stands}
use Rattle.gq_meaning.specs.Selected.{set_of}
use Rattle.gq_meaning.specs.Expand.{Asked, expand, sets_of}
use Rattle.gq_meaning.specs.Thin.{IsIn}
use Rattle.gq_meaning.specs.Response.{Given, Place, setting}
use Rattle.gq_executor.specs.Operations.{fragments_in}
use Rattle.gq_laws.specs.Rewriting.Reached.{HasObject, AtReachedPlaces}

-- the type of the parent is known, and the object's type is one of its possible types (GetPossibleTypes, section 5.5.2.3)
pub record IsPossibleFor (es : List EntryOf) (object : Text) (parent : Option Text) : Type 0 where
  pub type_name : Text
  pub is_parent : parent ≡ Some type_name
  pub possible : IsPossible es type_name object

-- The selections that a field asks for are those of a selection set of the project, for whose parent the object is possible.
pub record HasSoundSet (x : ExecutableOf) (object : Text) (w : Asked) : Type 0 where
  pub set : SetOf
  pub stands : Stands x set
  pub says : w.set ≡ set_of set.selections
  pub possible : IsPossibleFor x.entries object set.parent

-- what a field of a document asks of execution, its place and directives left out
abbrev pub asked_by : FieldAt → Asked
asked_by f = record { key = key f; name = f.name.text; arguments = erase_values f.arguments; set = set_of f.below }

-- A field that is asked of an object stands in a selection set of the project, and the object is possible for the field's parent.
pub record IsSoundField (x : ExecutableOf) (object : Text) (a : Asked) : Type 0 where
  pub set : SetOf
  pub stands : Stands x set
  pub field_at : FieldAt
  pub in_set : InSet x set field_at
  pub asks : a ≡ asked_by field_at
  pub possible : IsPossibleFor x.entries object field_at.parent

-- Where a path leads to an object, so it is for each field that asks for what stands there; and for each field that is asked of the object.
abbrev pub SetsAreSound : Type 0
SetsAreSound = AtReachedPlaces (λ x g q. (object : Text) → HasObject g q object → (w : Asked) → IsIn w q.fields → HasSoundSet x object w)

abbrev pub FieldsAreSound : Type 0
FieldsAreSound =
    AtReachedPlaces (λ x g q. (object : Text) → HasObject g q object → (a : Asked) → IsIn a (expand (setting g object) (fragments_in x) (sets_of q.fields)) → IsSoundField x object a)
