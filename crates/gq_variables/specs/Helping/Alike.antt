-- Variables of two operations that are wrong at the same uses.
use Rattle.std.specs.Prelude.{◌≡◌, Bool, true, false, List, [], ◌∷◌, Contains, ◌&&◌}
use Rattle.std.specs.List.{list_any}
use Rattle.std.specs.Str.{bytes_eq}
use Rattle.gq_text.specs.declared.place.Span.{Span}
use Rattle.gq_tree.specs.Plain.{VariableOf}
use Rattle.gq_types.specs.Entries.{Text}
use Rattle.gq_variables.specs.Helping.Again.{covers}

-- whether the variable has one of these names
abbrev pub is_named : List Text → VariableOf Span → Bool
is_named names v = list_any (bytes_eq v.name.text) names

-- the first has the name of the other one, and is wrong wherever that is
abbrev pub is_alike : (before now : VariableOf Span) → Bool
is_alike before now = bytes_eq before.name.text now.name.text && covers before now

-- the same of each, in their order
abbrev pub are_alike : (before now : List (VariableOf Span)) → Bool
are_alike [] [] = true
are_alike [] (v ∷ vs) = false
are_alike (w ∷ ws) [] = false
are_alike (w ∷ ws) (v ∷ vs) = is_alike w v && are_alike ws vs

-- Of these names, the second variables have each that the first have, and each of them is wrong only where one of the first is.
pub record AreAsBefore (names : List Text) (before now : List (VariableOf Span)) : Type 0 where
  pub defined : (w : VariableOf Span) → Contains before w → is_named names w ≡ true → (v : VariableOf Span) × Contains now v × (v.name.text ≡ w.name.text)
  pub covered : (v : VariableOf Span) → Contains now v → is_named names v ≡ true → (w : VariableOf Span) × Contains before w × (w.name.text ≡ v.name.text) × (covers w v ≡ true)
