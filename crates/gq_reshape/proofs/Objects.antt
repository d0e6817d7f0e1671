-- Whether an object type is possible, by the list of those that are.
use Rattle.std.proofs.Common.{◌≡◌, ◌↔◌, Bool, true, false, not, List, [], ◌∷◌, length, Contains, refl, sym, ap, subst, arith}
use Rattle.std.specs.Borrow.{Bor}
use Rattle.gq_types.specs.Entries.{Text, EntryOf}
use Rattle.gq_types.specs.LookUps.{texts_of}
use Rattle.gq_types.specs.Possible.{IsPossible}
use Rattle.gq_types.proofs.Gathered.{nothing_in, first}
use Rattle.gq_reshape.specs.Helping.Steps.{HasObject}

pub has_objects : (es : List EntryOf) (type_name : Text) (objects : List (Bor Text)) (empty : Bool) → ((object : Text) → Contains (texts_of objects) object ↔ IsPossible es type_name object) → ((length objects ≡ 0) → empty ≡ true) → (empty ≡ true → length objects ≡ 0) → HasObject es type_name (not empty)
has_objects es type_name [] empty all when back = subst (HasObject es type_name) (sym (ap not (when refl))) (λ object possible. nothing_in object ((all object).1 possible))
has_objects es type_name (x ∷ xs) empty all when back = by empty refl
  where
    by : (b : Bool) → empty ≡ b → HasObject es type_name (not b)
    by true e = let n = back e in absurd (omega (arith, n))
    by false e = λ none. none x.now ((all x.now).0 (first x.now x.now (texts_of xs) refl))
