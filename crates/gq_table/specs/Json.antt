-- Tables and variables as they are read from JSON: what has another shape is nothing. The members of an object stand in the order of their names.
use Rattle.std.specs.Prelude.{ℕ, ◌^◌, Bool, true, false, List, [], ◌∷◌, Option, Some, None, codes, decimal, nat_eq, nat_lt, option_and_then, if◌then◌else◌}
use Rattle.std.specs.Option.{option_map, option_map_or}
use Rattle.std.specs.Str.{bytes_eq}
use Rattle.std.specs.Fmt.{signed_decimal}
use Rattle.gq_tree.specs.Forest.{none, row}
use Rattle.serde_json.specs.Data as json
use Rattle.serde_json.specs.Data.{Num, unsigned, negative, float, Items, no_items, item, Members, no_members, member}
use Rattle.serde_json.specs.Find.{get, as_bool, as_str, as_number, as_u64, as_array, as_object}
use Rattle.serde_json.specs.Events.{members_len}
use Rattle.gq_meaning.specs.Values as value
use Rattle.gq_meaning.specs.Values.{Text, Leaf, Value, Values}
use Rattle.gq_meaning.specs.Results as result
use Rattle.gq_meaning.specs.Results.{Answer}
use Rattle.gq_table.specs.Numbers.{is_number}
use Rattle.gq_table.specs.Rows.{RowOf, has_repeated_call}
use Rattle.gq_table.specs.Views.{alone, under}

-- all of them, unless one is nothing
abbrev pub before : {A : Type 0} → Option A → Option (List A) → Option (List A)
before (Some x) (Some xs) = Some (x ∷ xs)
before (Some x) None = None
before None xs = None

-- ---- numbers and texts

-- the spelling of an integer that `as_i64` gives
abbrev pub integer_text : Num → Option Text
integer_text (unsigned n) = if nat_lt n (2 ^ 63) then Some (decimal n) else None
integer_text (negative z) = Some (signed_decimal z)
integer_text (float x) = None

-- an integer that `as_i64` gives and that is not negative
abbrev pub natural_below : ℕ → Option ℕ
natural_below n = if nat_lt n (2 ^ 63) then Some n else None

abbrev pub natural_of : Num → Option ℕ
natural_of n = option_and_then natural_below (as_u64 n)

abbrev pub natural_in : Option json.Data → Option ℕ
natural_in d = option_and_then natural_of (option_and_then as_number d)

-- how many members an object has
abbrev pub member_count : json.Data → ℕ
member_count d = option_map_or members_len (as_object d) 0

abbrev pub number_leaf : Num → Option Leaf
number_leaf n = option_map value.number (integer_text n)

-- a number by its spelling
abbrev pub if_number : Text → Option Leaf
if_number s = if is_number s then Some (value.number s) else None

abbrev pub spelling_leaf : json.Data → Option Leaf
spelling_leaf d = option_and_then if_number (as_str d)

abbrev pub leaf_value : Leaf → Value
leaf_value v = alone (value.leaf v) none

abbrev pub enum_value : Text → Value
enum_value name = alone (value.enum name) none

abbrev pub list_value : List Value → Value
list_value vs = alone value.list (row vs)

abbrev pub object_value : List Value → Value
object_value vs = alone value.object (row vs)

-- ---- arguments

-- An argument of a row: `{"num": ..}`, `{"enum": ..}` and `{"object": ..}` stand for what has no JSON of its own.
abbrev mutual
  pub argument_value : json.Data → Option Value
  argument_value json.null = Some (alone value.null none)
  argument_value (json.boolean b) = Some (leaf_value (value.boolean b))
  argument_value (json.number n) = option_map leaf_value (number_leaf n)
  argument_value (json.string s) = Some (leaf_value (value.text s))
  argument_value (json.array ds) = option_map list_value (argument_items ds)
  argument_value (json.object ms) = argument_tagged ms

  pub argument_items : Items → Option (List Value)
  argument_items no_items = Some []
  argument_items (item d ds) = before (argument_value d) (argument_items ds)

  pub argument_tagged : Members → Option Value
  argument_tagged no_members = None
  argument_tagged (member k d no_members) =
      if bytes_eq k (codes "num") then option_map leaf_value (spelling_leaf d)
      else (if bytes_eq k (codes "enum") then option_map enum_value (as_str d)
      else (if bytes_eq k (codes "object") then argument_object d
      else None))
  argument_tagged (member k d (member l e ms)) = None

  pub argument_object : json.Data → Option Value
  argument_object json.null = None
  argument_object (json.boolean b) = None
  argument_object (json.number n) = None
  argument_object (json.string s) = None
  argument_object (json.array ds) = None
  argument_object (json.object ms) = option_map object_value (argument_entries ms)

  pub argument_entries : Members → Option (List Value)
  argument_entries no_members = Some []
  argument_entries (member k d ms) = before (option_map (under k) (argument_value d)) (argument_entries ms)

-- an argument that is an object of one member
abbrev pub argument_under : Text → json.Data → Option Value
argument_under k d = argument_tagged (member k d no_members)

-- the arguments of a row
abbrev pub arguments_of : json.Data → Option (List Value)
arguments_of d = option_and_then argument_entries (as_object d)

-- ---- results

-- an object of the one member num
abbrev pub leaf_tagged : json.Data → Option Leaf
leaf_tagged d = if nat_eq (member_count d) 1 then option_and_then spelling_leaf (get (codes "num") d) else None

-- what is under `leaf`
abbrev pub leaf_of : json.Data → Option Leaf
leaf_of json.null = None
leaf_of (json.boolean b) = Some (value.boolean b)
leaf_of (json.number n) = number_leaf n
leaf_of (json.string s) = Some (value.text s)
leaf_of (json.array ds) = None
leaf_of (json.object ms) = leaf_tagged (json.object ms)

abbrev pub leaf_answer : Leaf → Answer
leaf_answer v = record { label = result.leaf v; below = none }

abbrev pub object_answer : Option Text → Option ℕ → Option Answer
object_answer (Some type_name) (Some number) = Some (record { label = result.object type_name number; below = none })
object_answer _ _ = None

abbrev pub object_items : Items → Option Answer
object_items no_items = None
object_items (item t no_items) = None
object_items (item t (item n no_items)) = object_answer (as_str t) (natural_in (Some n))
object_items (item t (item n (item d ds))) = None

-- what is under `object`: the name of a type, and a number
abbrev pub object_of : json.Data → Option Answer
object_of d = option_and_then object_items (as_array d)

-- what is under `error`: true
abbrev pub failed_if : Bool → Option Answer
failed_if true = Some (record { label = result.failed; below = none })
failed_if false = None

abbrev pub failed_of : json.Data → Option Answer
failed_of d = option_and_then failed_if (as_bool d)

abbrev pub list_answer : List Answer → Answer
list_answer answers = record { label = result.list; below = row answers }

-- the result of a row
abbrev mutual
  pub result_of : json.Data → Option Answer
  result_of json.null = Some (record { label = result.nothing; below = none })
  result_of (json.boolean b) = None
  result_of (json.number n) = None
  result_of (json.string s) = None
  result_of (json.array ds) = None
  result_of (json.object ms) = result_tagged ms

  pub result_tagged : Members → Option Answer
  result_tagged no_members = None
  result_tagged (member k d no_members) =
      if bytes_eq k (codes "error") then failed_of d
      else (if bytes_eq k (codes "leaf") then option_map leaf_answer (leaf_of d)
      else (if bytes_eq k (codes "object") then object_of d
      else (if bytes_eq k (codes "list") then list_result d
      else None)))
  result_tagged (member k d (member l e ms)) = None

  pub list_result : json.Data → Option Answer
  list_result json.null = None
  list_result (json.boolean b) = None
  list_result (json.number n) = None
  list_result (json.string s) = None
  list_result (json.array ds) = option_map list_answer (result_items ds)
  list_result (json.object ms) = None

  pub result_items : Items → Option (List Answer)
  result_items no_items = Some []
  result_items (item d ds) = before (result_of d) (result_items ds)

-- a result that is an object of one member
abbrev pub result_under : Text → json.Data → Option Answer
result_under k d = result_tagged (member k d no_members)

-- ---- rows

abbrev pub row_with : Option Text → Option ℕ → Option Text → Option (List Value) → Option Answer → Option RowOf
row_with (Some type_name) (Some number) (Some field) (Some arguments) (Some answer) =
    Some (record { call = record { type_name = type_name; number = number; field = field; arguments = row arguments }; result = answer })
row_with _ _ _ _ _ = None

abbrev pub row_members : json.Data → Option RowOf
row_members d =
    row_with (option_and_then as_str (get (codes "type") d)) (natural_in (get (codes "object") d)) (option_and_then as_str (get (codes "field") d))
    (option_and_then arguments_of (get (codes "args") d)) (option_and_then result_of (get (codes "result") d))

-- a row: an object of the five members type, object, field, args and result
abbrev pub row_in : json.Data → Option RowOf
row_in d = if nat_eq (member_count d) 5 then row_members d else None

abbrev pub rows_in : Items → Option (List RowOf)
rows_in no_items = Some []
rows_in (item d ds) = before (row_in d) (rows_in ds)

-- an object of the one member rows
abbrev pub rows_value : json.Data → Option (List RowOf)
rows_value d = if nat_eq (member_count d) 1 then option_and_then rows_in (option_and_then as_array (get (codes "rows") d)) else None

abbrev pub unless_repeated : List RowOf → Option (List RowOf)
unless_repeated rows = if has_repeated_call rows then None else Some rows

-- the rows of a table, no two of them of one call
abbrev pub rows_of_json : json.Data → Option (List RowOf)
rows_of_json d = option_and_then unless_repeated (rows_value d)

-- ---- variables

-- a plain value; no object stands for a number or for an enum value here
abbrev mutual
  pub plain_value : json.Data → Option Value
  plain_value json.null = Some (alone value.null none)
  plain_value (json.boolean b) = Some (leaf_value (value.boolean b))
  plain_value (json.number n) = option_map leaf_value (number_leaf n)
  plain_value (json.string s) = Some (leaf_value (value.text s))
  plain_value (json.array ds) = option_map list_value (plain_items ds)
  plain_value (json.object ms) = option_map object_value (plain_entries ms)

  pub plain_items : Items → Option (List Value)
  plain_items no_items = Some []
  plain_items (item d ds) = before (plain_value d) (plain_items ds)

  pub plain_entries : Members → Option (List Value)
  plain_entries no_members = Some []
  plain_entries (member k d ms) = before (option_map (under k) (plain_value d)) (plain_entries ms)

-- variables: an object of plain values
abbrev pub variables_of_json : json.Data → Option Values
variables_of_json d = option_map row (option_and_then plain_entries (as_object d))
