-- What values of JSON are read as while their text is seen.
use Rattle.std.specs.Prelude.{◌≡◌, ◌<◌, ◌≤◌, ◌^◌, ◌∷◌, ◌++◌, ℕ, List, codes, length, Option, Some, option_and_then}
use Rattle.std.specs.Option.{option_map}
use Rattle.json.specs.Token as token
use Rattle.json.specs.Token.{Token}
use Rattle.json.specs.Json as seen
use Rattle.serde_json.specs.Data.{Data, Items, no_members, number, unsigned}
use Rattle.serde_json.specs.Read.{of_json, of_items, of_members, max_depth}
use Rattle.gq_meaning.specs.Values.{Text, Leaf, Value}
use Rattle.gq_table.specs.Json.{argument_entries, argument_value, leaf_of, leaf_value, row_in, rows_in, rows_value}
use Rattle.gq_table.specs.Rows.{RowOf}
use Rattle.gq_table.specs.Views.{under}
use Rattle.gq_table_text.specs.Helping.Places.{ArePut}

-- the value that was seen, read by f
abbrev pub read_as : {A : Type 0} → (Data → Option A) → seen.Json → Option A
read_as f j = option_and_then f (of_json j)

-- the value is that natural number below 2^63
pub record IsNatural (j : seen.Json) (n : ℕ) : Type 0 where
  pub is : of_json j ≡ Some (number (unsigned n))
  pub low : n < 2 ^ 63

-- the tokens begin with a value that f reads as x; the new ones stand behind it
pub record BeginsWith {A : Type 0} (f : Data → Option A) (depth : ℕ) (old new : List Token) (x : A) : Type 0 where
  pub json : seen.Json
  pub is_seen : seen.value depth old ≡ Some (json, new)
  pub is_read : read_as f json ≡ Some x
  pub shorter : length new < length old

-- the tokens begin with a natural number; the new ones stand behind it
pub record BeginsWithNatural (old new : List Token) (n : ℕ) : Type 0 where
  pub text : List ℕ
  pub are : old ≡ token.number text ∷ new
  pub is : IsNatural (seen.number text) n

-- the token is a value without parts, and this leaf
pub record IsPlain (t : Token) (v : Leaf) : Type 0 where
  pub json : seen.Json
  pub is_seen : (depth : ℕ) (new : List Token) → seen.value depth (t ∷ new) ≡ Some (json, new)
  pub is_leaf : read_as leaf_of json ≡ Some v
  pub is_argument : read_as argument_value json ≡ Some (leaf_value v)

-- the token is a value without parts, and this argument
abbrev pub IsPlainArgument : Token → Value → Type 0
IsPlainArgument t v = (depth : ℕ) (new : List Token) → BeginsWith argument_value depth (t ∷ new) new v

-- ---- items and members

-- the tokens behind the bracket of an array are items that g reads as these, and its closing bracket; the new ones stand behind it
pub record BeginWithItems {A : Type 0} (g : Items → Option (List A)) (depth : ℕ) (old new : List Token) (xs : List A) : Type 0 where
  pub items : seen.Items
  pub are_seen : seen.items (seen.value depth) (length old) old ≡ Some (items, new)
  pub are_read : option_and_then g (of_items items) ≡ Some xs
  pub shorter : length new < length old

-- where the tokens that are left can be read as items, all can
pub record AreReadBefore {A : Type 0} (g : Items → Option (List A)) (depth : ℕ) (old now : List Token) (xs : List A) : Type 0 where
  pub turns : ℕ
  pub enough : length now ≤ turns
  pub all : (js : seen.Items) (new : List Token) (others : List A) → seen.items (seen.value depth) turns now ≡ Some (js, new) → length new < length now →
      option_and_then g (of_items js) ≡ Some others →
      BeginWithItems g depth old new (xs ++ others)

-- an argument under its name
abbrev pub argument_named : Text → Data → Option Value
argument_named name d = option_map (under name) (argument_value d)

-- the tokens behind the brace of an object are members that are these arguments, and its closing brace; the new ones stand behind it
pub record BeginWithArguments (depth : ℕ) (old new : List Token) (es : List Value) : Type 0 where
  pub members : seen.Members
  pub are_seen : seen.members (seen.value depth) (length old) old ≡ Some (members, new)
  pub are_read : option_and_then argument_entries (of_members members no_members) ≡ Some es
  pub shorter : length new < length old

-- those members are the arguments that were put, and the others that are left
pub record AreSeenPut (depth : ℕ) (old new : List Token) (left : seen.Members) (es : List Value) : Type 0 where
  pub members : seen.Members
  pub are_seen : seen.members (seen.value depth) (length old) old ≡ Some (members, new)
  pub are_put : ArePut members left es

-- where the tokens that are left can be read as members, all can
pub record ArePutBefore (depth : ℕ) (old now : List Token) (es : List Value) : Type 0 where
  pub turns : ℕ
  pub enough : length now ≤ turns
  pub all : (left : seen.Members) (new : List Token) → seen.members (seen.value depth) turns now ≡ Some (left, new) → AreSeenPut depth old new left es
  pub fewer : length now ≤ length old

-- ---- rows

-- the tokens begin with the members of a row up to its arguments, which come next
pub record BeginsWithHead (old new : List Token) (type_name : List ℕ) (n : ℕ) (field : List ℕ) : Type 0 where
  pub text : List ℕ
  pub is_natural : IsNatural (seen.number text) n
  pub are : old ≡ token.begin_object ∷ token.key (codes "type") ∷ token.string type_name ∷ token.key (codes "object") ∷ token.number text
      ∷ token.key (codes "field") ∷ token.string field ∷ token.key (codes "args") ∷ new

-- how deep the rows of a table may nest: JSON nests 127 deep, and they stand in an array in an object
abbrev pub row_depth : ℕ
row_depth = 125

-- the tokens begin with a value that is this row; the new ones stand behind it
abbrev pub BeginsWithRow : (old new : List Token) → RowOf → Type 0
BeginsWithRow = BeginsWith row_in row_depth

-- the tokens are the items of an array that are these rows, and its closing bracket; the new ones stand behind it
abbrev pub BeginWithRows : (old new : List Token) → List RowOf → Type 0
BeginWithRows = BeginWithItems rows_in row_depth

-- the tokens are a table of these rows, of which several may be of one call
abbrev pub AreRowsOf : List Token → List RowOf → Type 0
AreRowsOf ts rows = option_and_then rows_value (option_and_then of_json (option_and_then (λ p. seen.if_last p.0 p.1) (seen.value max_depth ts))) ≡ Some rows
