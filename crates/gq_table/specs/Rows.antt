-- A table of what resolvers answer: a map from calls to results (ResolveFieldValue, section 6.4.2).
use Rattle.std.specs.Prelude.{ℕ, Bool, true, false, List, [], ◌∷◌, Option, Some, None, nat_eq, is_some, find, max, ◌++◌, ◌&&◌, ◌||◌}
use Rattle.std.specs.Option.{option_map}
use Rattle.std.specs.Str.{bytes_eq}
use Rattle.gq_tree.specs.Forest.{agree}
use Rattle.gq_meaning.specs.Values as value
use Rattle.gq_meaning.specs.Values.{Text, Leaf, Says, Part}
use Rattle.gq_meaning.specs.Results.{Answer, Call}
use Rattle.gq_meaning.specs.Depth.{depth}

pub record RowOf : Type 0 where
  pub call : Call
  pub result : Answer

abbrev pub same_bool : Bool → Bool → Bool
same_bool true b = b
same_bool false true = false
same_bool false false = true

abbrev pub same_leaf : Leaf → Leaf → Bool
same_leaf (value.boolean a) (value.boolean b) = same_bool a b
same_leaf (value.number a) (value.number b) = bytes_eq a b
same_leaf (value.text a) (value.text b) = bytes_eq a b
same_leaf _ _ = false

abbrev pub same_says : Says → Says → Bool
same_says value.null value.null = true
same_says (value.leaf a) (value.leaf b) = same_leaf a b
same_says (value.enum a) (value.enum b) = bytes_eq a b
same_says value.list value.list = true
same_says value.object value.object = true
same_says _ _ = false

abbrev pub same_key : Option Text → Option Text → Bool
same_key None None = true
same_key (Some a) (Some b) = bytes_eq a b
same_key _ _ = false

abbrev pub same_part : Part → Part → Bool
same_part a b = same_key a.key b.key && same_says a.says b.says

-- one call: the same field of the same object with the same arguments
abbrev pub same_call : Call → Call → Bool
same_call a b = bytes_eq a.type_name b.type_name && nat_eq a.number b.number && bytes_eq a.field b.field && agree same_part a.arguments b.arguments

-- the result of a call
abbrev pub row_of : List RowOf → Call → Option Answer
row_of rows call = option_map (λ r. r.result) (find (λ r. same_call call r.call) rows)

-- Two rows are of one call: one of them, and one before it. The rows in seen stand before all.
abbrev pub repeats_after : List RowOf → List RowOf → Bool
repeats_after seen [] = false
repeats_after seen (r ∷ rs) = is_some (row_of seen r.call) || repeats_after (seen ++ r ∷ []) rs

abbrev pub has_repeated_call : List RowOf → Bool
has_repeated_call rows = repeats_after [] rows

-- no result nests deeper
abbrev pub deepest : List RowOf → ℕ
deepest [] = 0
deepest (r ∷ rs) = max (depth r.result.below) (deepest rs)
