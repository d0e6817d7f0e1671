-- What is kept of pairs of types that were asked for. Only private contracts speak of it.
use Rattle.std.specs.Prelude.{◌≡◌, ℕ, Bool, List, Some, ◌&&◌, nat_eq}
use Rattle.std.specs.HashMap.{HashMap, get}
use Rattle.gq_types.specs.Entries.{Text, EntryOf}
use Rattle.gq_types.specs.Joined.{type_number}
use Rattle.gq_fragments.specs.Helping.FragmentPlaces.{share_object}

-- two numbers are the same as two others
abbrev pub same_pair : ℕ × ℕ → ℕ × ℕ → Bool
same_pair a b = nat_eq a.0 b.0 && nat_eq a.1 b.1

-- the answer for the types of two numbers
abbrev pub IsAnswer : List EntryOf → ℕ × ℕ → Bool → Type 0
IsAnswer es numbers answer = (one other : Text) → type_number es one ≡ Some numbers.0 → type_number es other ≡ Some numbers.1 → answer ≡ share_object es one other

-- what is kept is right
abbrev pub AreAnswers : {S : Type 0} → List EntryOf → HashMap (ℕ × ℕ) Bool S → Type 0
AreAnswers es answers = (numbers : ℕ × ℕ) (answer : Bool) → get same_pair answers numbers ≡ Some answer → IsAnswer es numbers answer
