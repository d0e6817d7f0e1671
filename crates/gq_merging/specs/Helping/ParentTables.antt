-- Fields by the types of their parents, computed.
use Rattle.std.specs.Prelude.{◌≡◌, ◌↔◌, ◌&&◌, not, Bool, true, false, List, [], Contains, is_some}
use Rattle.std.specs.Option.{option_map_or}
use Rattle.gq_types.specs.Entries.{Text, EntryOf}
use Rattle.gq_types.specs.Joined.{kind_named}
use Rattle.gq_types.specs.LookUps.{has_kind}
use Rattle.gq_types.specs.declared.entry.TypeKind.TheVariants as kind
use Rattle.gq_merging.specs.Helping.NameTables.{ByNameOf, AreListed}
use Rattle.gq_merging.specs.Helping.SetTables.{MemberOf}

-- the name of the type of a field's parent, empty where it is not known
abbrev pub parent_text : MemberOf → Text
parent_text m = option_map_or (λ t. t) m.field_at.parent []

-- whether the parent is of an object type
abbrev pub is_of_object : List EntryOf → MemberOf → Bool
is_of_object es m = option_map_or (has_kind es kind.Object) m.field_at.parent false

-- whether it is of another type that is known
abbrev pub is_of_other : List EntryOf → MemberOf → Bool
is_of_other es m = option_map_or (λ t. is_some (kind_named es t) && not (has_kind es kind.Object t)) m.field_at.parent false

-- In the table stand those of the fields whose parents are of object types, by the names of these types, and among the others
-- those whose parents are of other types that are known.
pub record AreByParent (es : List EntryOf) (t : ByNameOf) (others ms : List MemberOf) : Type 0 where
  pub objects : List MemberOf
  pub listed : AreListed parent_text t objects
  pub are_objects : (m : MemberOf) → Contains objects m ↔ (Contains ms m × (is_of_object es m ≡ true))
  pub are_others : (m : MemberOf) → Contains others m ↔ (Contains ms m × (is_of_other es m ≡ true))
