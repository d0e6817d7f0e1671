-- What the meaning of names says of the entries.
use Rattle.std.specs.Prelude.{◌≡◌, ℕ, true, List, Some, is_some, slice_get}
use Rattle.gq_types.specs.Entries.{Text, EntryOf}
use Rattle.gq_types.specs.Joined.{is_type_named, kind_in, type_number, kind_named}

-- a name has a number exactly where it has a kind
abbrev pub TypesHaveKinds : Type 0
TypesHaveKinds = (es : List EntryOf) (text : Text) → is_some (type_number es text) ≡ is_some (kind_named es text)

-- at the number of a name stands a definition of a type of that name, and its kind is the name's
pub record DefinesType (es : List EntryOf) (text : Text) (number : ℕ) : Type 0 where
  pub entry : EntryOf
  pub stands : slice_get es number ≡ Some entry
  pub is_named : is_type_named text entry.definition ≡ true
  pub has_kind : kind_named es text ≡ kind_in entry.definition

abbrev pub NumbersDefineTypes : Type 0
NumbersDefineTypes = (es : List EntryOf) (text : Text) (number : ℕ) → type_number es text ≡ Some number → DefinesType es text number
