-- The last item of a list that passes a test.
use Rattle.std.specs.Prelude.{Bool, List, [], ◌∷◌, Option, Some, None, if◌then◌else◌}
use Rattle.std.specs.Option.{option_or}

abbrev pub find_last : {A : Type 0} → (A → Bool) → List A → Option A
find_last test [] = None
find_last test (x ∷ xs) = option_or (find_last test xs) (if test x then Some x else None)
