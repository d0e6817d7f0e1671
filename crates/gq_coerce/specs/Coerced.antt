-- Values as they are coerced (section 6.4.1), and the entries of objects.
use Rattle.std.specs.Prelude.{Bool, true, false, List, [], ◌∷◌, Option, Some, None, if◌then◌else◌}
use Rattle.std.specs.Ordering.{nat_cmp, match_ordering}
use Rattle.std.specs.Cmp.Lexicographic.{slice_cmp}
use Rattle.std.specs.Str.{bytes_eq}
use Rattle.gq_tree.specs.Forest.{none, row}
use Rattle.gq_meaning.specs.Values as value
use Rattle.gq_meaning.specs.Values.{Text, Says, Value, Values, Leaf}

-- nothing was given; what was given does not fit; a value
pub data Coerced : Type 0 where
  absent : Coerced
  fault : Coerced
  given : Value → Coerced

-- a value by itself, and the same under a name
abbrev pub alone : Says → Values → Value
alone says below = record { label = record { key = None; says = says }; below = below }

abbrev pub unnamed : Value → Value
unnamed v = alone v.label.says v.below

abbrev pub under : Text → Value → Value
under name v = record { label = record { key = Some name; says = v.label.says }; below = v.below }

abbrev pub null_value : Coerced
null_value = given (alone value.null none)

abbrev pub leaf_value : Leaf → Coerced
leaf_value v = given (alone (value.leaf v) none)

abbrev pub enum_value : Text → Coerced
enum_value name = given (alone (value.enum name) none)

-- one of several that are given in a row, under its name where it has one
pub record Part : Type 0 where
  pub key : Option Text
  pub is : Coerced

-- The items of a list, none where one is at fault. One that is absent is as said: null, or at fault where there is no null.
abbrev pub or_missing : Coerced → Coerced → Coerced
or_missing missing absent = missing
or_missing missing fault = fault
or_missing missing (given v) = given v

abbrev pub item_before : Coerced → Option (List Value) → Option (List Value)
item_before absent rest = rest
item_before fault rest = None
item_before (given v) None = None
item_before (given v) (Some rest) = Some (unnamed v ∷ rest)

abbrev pub items_of : Coerced → List Part → Option (List Value)
items_of missing [] = Some []
items_of missing (p ∷ ps) = item_before (or_missing missing p.is) (items_of missing ps)

abbrev pub list_value : Option (List Value) → Coerced
list_value None = fault
list_value (Some items) = given (alone value.list (row items))

-- the only item of a list
abbrev pub wrapped : Coerced → Coerced
wrapped absent = absent
wrapped fault = fault
wrapped (given v) = given (alone value.list (row (unnamed v ∷ [])))

-- the first part of that name
abbrev pub is_keyed : Text → Option Text → Bool
is_keyed name None = false
is_keyed name (Some key) = bytes_eq name key

abbrev pub part_named : Text → List Part → Coerced
part_named name [] = absent
part_named name (p ∷ ps) = if is_keyed name p.key then p.is else part_named name ps

-- an entry put among others, which stand in the order of their names
abbrev pub is_before : Text → Option Text → Bool
is_before name None = false
is_before name (Some key) = match_ordering (slice_cmp nat_cmp name key) true false false

abbrev pub put_entry : Text → Value → List Value → List Value
put_entry name v [] = under name v ∷ []
put_entry name v (e ∷ es) = if is_before name e.label.key then under name v ∷ e ∷ es else e ∷ put_entry name v es

-- The entries of an object in the order of their names, none where one is at fault. Those that are absent are left out.
abbrev pub entry_with : Option Text → Coerced → Option (List Value) → Option (List Value)
entry_with key is None = None
entry_with None is (Some entries) = Some entries
entry_with (Some name) absent (Some entries) = Some entries
entry_with (Some name) fault (Some entries) = None
entry_with (Some name) (given v) (Some entries) = Some (put_entry name v entries)

abbrev pub entries_of : List Part → Option (List Value)
entries_of [] = Some []
entries_of (p ∷ ps) = entry_with p.key p.is (entries_of ps)

abbrev pub object_value : Option (List Value) → Coerced
object_value None = fault
object_value (Some entries) = given (alone value.object (row entries))
