-- What is noted of the fields that a document selects, and the marks that come of it.
use Rattle.std.proofs.Common.{◌≡◌, ◌⊎◌, ⊎_elim, inl, inr, ℕ, zero, suc, ◌+◌, ◌<◌, ◌≤◌, Bool, false, List, [], ◌∷◌, ◌++◌, Option, Some, None, IfSome, get_or, slice_get, slice_index_or}
use Rattle.std.proofs.Common.{length, ap, sym, refl, ◌∙◌, subst, arith}
use Rattle.std.specs.List.{list_any}
use Rattle.gq_tree.specs.Readings.{ParsedOf, SharedParsed, definitions_read, shared_view, readings_view}
use Rattle.gq_types.specs.Entries.{Text}
use Rattle.gq_laws.specs.Placing.OtherFields.{has_selected}
use Rattle.gq_kept.specs.Helping.Selected.{AreMarkedFor, AreSelected, HasNamesOf}

-- what is noted of a document
get_some : {X : Type 0} (xs : List X) (n : ℕ) (x : X) → n < length xs → x ≡ get_or xs n x → slice_get xs n ≡ Some x
get_some [] n x h e = absurd (omega (arith, h))
get_some {X} (y ∷ xs) zero x h e = ap (λ (z : X). Some z) (sym e)
get_some (y ∷ xs) (suc n) x h e = get_some xs n x (omega (arith, h)) e

module _ (rs : List ParsedOf) (lists : List (Option (List Text))) (n : ℕ) (r : ParsedOf) where
  pub selected_at : (one : Option (List Text)) → slice_get rs n ≡ Some r → n < length lists → one ≡ get_or lists n one → AreSelected rs lists → IfSome one (HasNamesOf r)
  selected_at None there inside noted are = tt
  selected_at (Some names) there inside noted are = are n r names there (get_some lists n (Some names) inside noted)

-- one of the readings
pub reading_there : (readings : List SharedParsed) (n : ℕ) (r : SharedParsed) → n < length readings → r ≡ get_or readings n r → slice_get (readings_view readings) n ≡ Some (shared_view r)
reading_there [] n r h e = absurd (omega (arith, h))
reading_there (x ∷ readings) zero r h e = ap (λ (z : SharedParsed). Some (shared_view z)) (sym e)
reading_there (x ∷ readings) (suc n) r h e = reading_there readings n r (omega (arith, h)) e

-- ---- marks

-- a document selects no field of these names
abbrev pub SelectsNone : List Text → ParsedOf → Type 0
SelectsNone names r = list_any (has_selected names) (definitions_read r) ≡ false

-- the marks of the first documents are right
abbrev pub AreMarkedBefore : List Text → List ParsedOf → ℕ → List Bool → Type 0
AreMarkedBefore names rs file marks = (n : ℕ) (r : ParsedOf) → n < file → slice_get rs n ≡ Some r → slice_index_or marks n false ≡ false → SelectsNone names r

-- a mark behind the others
mark_before : (marks : List Bool) (mark : Bool) (n : ℕ) → n < length marks → slice_index_or (marks ++ mark ∷ []) n false ≡ slice_index_or marks n false
mark_before [] mark n h = absurd (omega (arith, h))
mark_before (m ∷ marks) mark zero h = refl
mark_before (m ∷ marks) mark (suc n) h = mark_before marks mark n (omega (arith, h))

mark_behind : (marks : List Bool) (mark : Bool) (n : ℕ) → length marks ≡ n → slice_index_or (marks ++ mark ∷ []) n false ≡ mark
mark_behind [] mark zero h = refl
mark_behind [] mark (suc n) h = absurd (omega (arith, h))
mark_behind (m ∷ marks) mark zero h = absurd (omega (arith, h))
mark_behind (m ∷ marks) mark (suc n) h = mark_behind marks mark n (omega (arith, h))

is_below : (n m : ℕ) → n < m + 1 → (n < m) ⊎ (n ≡ m)
is_below zero zero h = inr refl
is_below zero (suc m) h = inl (omega arith)
is_below (suc n) zero h = absurd (omega (arith, h))
is_below (suc n) (suc m) h = ⊎_elim (λ l. inl (omega (arith, l))) (λ e. inr (ap suc e)) (is_below n m (omega (arith, h)))

module _ (names : List Text) (rs : List ParsedOf) (file : ℕ) (r : ParsedOf) (there : slice_get rs file ≡ Some r) (marks : List Bool) (count : length marks ≡ file)
    (mark : Bool) (is : mark ≡ false → SelectsNone names r) where
  pub marked_more : AreMarkedBefore names rs file marks → AreMarkedBefore names rs (file + 1) (marks ++ mark ∷ [])
  marked_more so_far n other below other_there bare = by_number (is_below n file below)
    where
      by_number : (n < file) ⊎ (n ≡ file) → SelectsNone names other
      by_number (inl before) = so_far n other before other_there (sym (mark_before marks mark n (omega (arith, before, count))) ∙ bare)
      by_number (inr at) =
          let same : r ≡ other = (let e = ap (slice_get rs) at in cc) in
          subst (SelectsNone names) same (is (sym (mark_behind marks mark n (omega (arith, at, count))) ∙ bare))

in_range : (rs : List ParsedOf) (n : ℕ) (r : ParsedOf) → slice_get rs n ≡ Some r → n < length rs
in_range [] n r e = absurd (cc)
in_range (x ∷ rs) zero r e = omega arith
in_range (x ∷ rs) (suc n) r e = let h = in_range rs n r e in omega (arith, h)

pub marked_all : (names : List Text) (rs : List ParsedOf) (file : ℕ) (marks : List Bool) → length rs ≤ file → AreMarkedBefore names rs file marks → AreMarkedFor names rs marks
marked_all names rs file marks all so_far n r there bare = so_far n r (let h = in_range rs n r there in omega (arith, h, all)) there bare
