-- Which objects a value of a type may be: GetPossibleTypes (section 5.5.2.3), and subtypes (section 3.6).
use Rattle.std.specs.Prelude.{◌≡◌, true, List, Some}
use Rattle.gq_tree.specs.Plain.{NameOf, TypeOf, named, list_of, non_null}
use Rattle.gq_types.specs.declared.entry.TypeKind.TheVariants as kind
use Rattle.gq_types.specs.Entries.{Text, EntryOf}
use Rattle.gq_types.specs.Joined.{kind_named}
use Rattle.gq_types.specs.Names.{has_member, declares}

-- An object type has itself, a union its members, an interface the object types that declare it.
pub data IsPossible (es : List EntryOf) : (type_name object : Text) → Type 0 where
  itself : {object : Text} → kind_named es object ≡ Some kind.Object → IsPossible es object object
  member : {union object : Text} → kind_named es union ≡ Some kind.Union → has_member es union object ≡ true →
      kind_named es object ≡ Some kind.Object → IsPossible es union object
  declaring : {interface object : Text} → kind_named es interface ≡ Some kind.Interface → declares es object interface ≡ true →
      kind_named es object ≡ Some kind.Object → IsPossible es interface object

-- Names of types: one name, a possible object of a union or interface, an interface that declares the other.
pub data IsSubtypeName (es : List EntryOf) : (sub super : Text) → Type 0 where
  equal : {text : Text} → IsSubtypeName es text text
  possible : {object super : Text} → IsPossible es super object → IsSubtypeName es object super
  interface : {sub super : Text} → kind_named es sub ≡ Some kind.Interface → kind_named es super ≡ Some kind.Interface →
      declares es sub super ≡ true → IsSubtypeName es sub super

-- Types whose names relate so: a type without null is a subtype of the one with null, and lists go by their items.
pub data Covers {P Q : Type 0} (relate : Text → Text → Type 0) : TypeOf P → TypeOf Q → Type 0 where
  by_name : {sub : NameOf P} {super : NameOf Q} → relate sub.text super.text → Covers relate (named sub) (named super)
  by_items : {sub : TypeOf P} {super : TypeOf Q} → Covers relate sub super → Covers relate (list_of sub) (list_of super)
  both_non_null : {sub : TypeOf P} {super : TypeOf Q} → Covers relate sub super → Covers relate (non_null sub) (non_null super)
  without_null : {sub : TypeOf P} {super : TypeOf Q} → Covers relate sub super → Covers relate (non_null sub) super

abbrev pub IsSubtype : {P Q : Type 0} → List EntryOf → TypeOf P → TypeOf Q → Type 0
IsSubtype es sub super = Covers (IsSubtypeName es) sub super
