-- Arguments as they are put, one after another, in the order of their names.
use Rattle.std.specs.Prelude.{◌≡◌, ℕ, suc, List, [], ◌∷◌, Option, Some, None}
use Rattle.std.specs.Option.{option_map}
use Rattle.std.specs.Ordering.{nat_cmp, match_ordering}
use Rattle.std.specs.Cmp.Lexicographic.{slice_cmp}
use Rattle.json.specs.Json as seen
use Rattle.serde_json.specs.Data.{Members, no_members}
use Rattle.serde_json.specs.Read.{of_members}
use Rattle.gq_meaning.specs.Values.{Value}
use Rattle.gq_table.specs.Json.{argument_entries}
use Rattle.gq_table.specs.declared.values.Entry.{Entry}

-- where an entry of that name goes: in front of the first one with a later name; nowhere, where one of that name comes first
abbrev pub place_of : List ℕ → List Entry → Option ℕ
place_of name [] = Some 0
place_of name (e ∷ es) = match_ordering (slice_cmp nat_cmp name e.name) (Some 0) None (option_map suc (place_of name es))

-- those that are left go on behind members that were put, and these are the entries
pub record ArePut (all left : seen.Members) (entries : List Value) : Type 0 where
  pub found : Members
  pub are_put : of_members all no_members ≡ of_members left found
  pub are_entries : argument_entries found ≡ Some entries
