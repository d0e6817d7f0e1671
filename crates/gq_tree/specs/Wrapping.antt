-- Lists and types without null (sections 3.11 and 3.12), and the literal null (section 2.9.5).
use Rattle.std.specs.Prelude.{Bool, true, false, Option, Some, None}
use Rattle.gq_tree.specs.Plain.{Says, null, TypeOf, named, list_of, non_null}

-- a type without null
abbrev pub is_non_null : {P : Type 0} → TypeOf P → Bool
is_non_null (named name) = false
is_non_null (list_of item) = false
is_non_null (non_null inner) = true

-- the type of the items of a list, which may be without null
abbrev pub item_of : {P : Type 0} → TypeOf P → Option (TypeOf P)
item_of (named name) = None
item_of (list_of item) = Some item
item_of (non_null inner) = item_of inner

-- the literal null
abbrev pub is_null : {P : Type 0} → Says P → Bool
is_null (null place) = true
is_null _ = false
