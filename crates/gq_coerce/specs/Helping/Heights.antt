-- How deep literals nest, and a number that goes down with each step into them. They only help to prove that coercion ends.
use Rattle.std.specs.Prelude.{ℕ, zero, suc, ◌+◌, ◌*◌, max, List, [], ◌∷◌, Option, Some, None}
use Rattle.std.specs.Option.{option_map_or}
use Rattle.gq_text.specs.declared.place.Span.{Span}
use Rattle.gq_tree.specs.Forest.{Forest, none, more}
use Rattle.gq_tree.specs.Plain.{Val, InputOf}
use Rattle.gq_meaning.specs.Values.{Value}
use Rattle.gq_types.specs.Entries.{EntryOf}
use Rattle.gq_types.specs.Joined.{inputs_in_body, body_in}

-- how deep trees in a row nest
abbrev pub height : {L : Type 0} → Forest L → ℕ
height none = 0
height (more l below rest) = max (suc (height below)) (height rest)

abbrev pub height_of : Option (Val Span) → ℕ
height_of o = option_map_or (λ v. height v.below) o 0

-- no default of these nests deeper
abbrev pub deepest : List (InputOf Span) → ℕ
deepest [] = 0
deepest (i ∷ is) = max (height_of i.default) (deepest is)

-- nor any of the input fields of a type system
abbrev pub deepest_default : List EntryOf → ℕ
deepest_default [] = 0
deepest_default (e ∷ es) = max (deepest (inputs_in_body (body_in e.definition))) (deepest_default es)

-- the weight of a literal of that height where n defaults may still be entered, and that of a default
abbrev pub weight : List EntryOf → (n height : ℕ) → ℕ
weight es n h = 8 * (n * (deepest_default es + 2) + h)

abbrev pub default_weight : List EntryOf → (n height : ℕ) → ℕ
default_weight es zero h = 0
default_weight es (suc n) h = weight es n h + 7

-- that of what is given, if it is
abbrev pub given_weight : List EntryOf → (n : ℕ) → Option (Val Span) → ℕ
given_weight es n None = 0
given_weight es n (Some v) = weight es n (height v.below) + 7

-- that of the value that is given for a variable or an input field
abbrev pub raw_weight : Option Value → ℕ
raw_weight None = 0
raw_weight (Some v) = 8 * height v.below + 7
