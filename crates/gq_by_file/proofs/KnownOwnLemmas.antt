-- What is known of files each by itself, where a file is replaced, put in or taken out, and what it comes to.
use Rattle.std.proofs.Common.{◌≡◌, ◌↔◌, ◌⊎◌, ⊎_elim, inl, inr, ℕ, zero, suc, ◌+◌, ◌<◌, ◌≤◌, List, [], ◌∷◌, ◌++◌, Option, Some, None, Result, Ok, Err, OnOk, OnErr, Contains, get_or, set, slice_get, length, take, map, refl, sym, ap, subst, arith}
use Rattle.std.specs.List.{insert, remove}
use Rattle.gq_tree.specs.Readings.{ParsedOf, SharedParsed, shared_view, readings_view}
use Rattle.gq_types.specs.Entries.{EntryOf}
use Rattle.gq_types.proofs.Gathered.{nothing_in, first, later, cases_cons}
use Rattle.gq_fault.specs.declared.fault.Fault.{Fault}
use Rattle.gq_rules.specs.Files.{alone, in_file, IsOfItsFile}
use Rattle.gq_by_file.specs.OneFile.Laws.{AreAlikeToRules, NumbersOfFilesAreUnseen}
use Rattle.gq_by_file.proofs.OwnLemmas.{own_of_file}
use Rattle.gq_by_file.specs.Own.{AreOwn, AreOwnOf, IsOwn, IsFoundAt, IsFoundOwn, own_in, none, more}

abbrev pub Own : Type 0
Own = List (Option (List Fault))

module _ (es : List EntryOf) (r : ParsedOf) where
  -- one file is another one
  pub own_set : (at : ℕ) {rs : List ParsedOf} {own : Own} → AreOwn es rs own → AreOwn es (set rs at r) (set own at None)
  own_set at none = none
  own_set zero (more q qs) = more tt qs
  own_set (suc at) (more q qs) = more q (own_set at qs)

  pub own_set_beyond : (at : ℕ) {rs : List ParsedOf} {own : Own} → length own ≤ at → AreOwn es rs own → AreOwn es (set rs at r) own
  own_set_beyond at h none = none
  own_set_beyond zero h (more q qs) = absurd (omega (arith, h))
  own_set_beyond (suc at) h (more q qs) = more q (own_set_beyond at (omega (arith, h)) qs)

  -- one is put in
  pub own_insert : (at : ℕ) {rs : List ParsedOf} {own : Own} → at < length own → AreOwn es rs own → AreOwn es (insert rs at r) (insert own at None)
  own_insert at h none = absurd (omega (arith, h))
  own_insert zero h (more q qs) = more tt (more q qs)
  own_insert (suc at) h (more q qs) = more q (own_insert at (omega (arith, h)) qs)

  pub own_insert_beyond : (at : ℕ) {rs : List ParsedOf} {own : Own} → length own ≤ at → AreOwn es rs own → AreOwn es (insert rs at r) own
  own_insert_beyond at h none = none
  own_insert_beyond zero h (more q qs) = absurd (omega (arith, h))
  own_insert_beyond (suc at) h (more q qs) = more q (own_insert_beyond at (omega (arith, h)) qs)

  pub own_insert_cut : (at : ℕ) {rs : List ParsedOf} {own : Own} → AreOwn es rs own → AreOwn es (insert rs at r) (take at own)
  own_insert_cut zero h = none
  own_insert_cut (suc at) none = none
  own_insert_cut (suc at) (more q qs) = more q (own_insert_cut at qs)

module _ (es : List EntryOf) where
  -- one is taken out
  pub own_remove : (at : ℕ) {rs : List ParsedOf} {own : Own} → AreOwn es rs own → AreOwn es (remove rs at) (remove own at)
  own_remove zero none = none
  own_remove (suc at) none = none
  own_remove zero (more q qs) = qs
  own_remove (suc at) (more q qs) = more q (own_remove at qs)

  pub own_remove_beyond : (at : ℕ) {rs : List ParsedOf} {own : Own} → length own ≤ at → AreOwn es rs own → AreOwn es (remove rs at) own
  own_remove_beyond at h none = none
  own_remove_beyond zero h (more q qs) = absurd (omega (arith, h))
  own_remove_beyond (suc at) h (more q qs) = more q (own_remove_beyond at (omega (arith, h)) qs)

  -- something is noted of one file more
  pub own_push : {rs : List ParsedOf} {own : Own} (n : ℕ) (r : ParsedOf) → length own ≡ n → slice_get rs n ≡ Some r → AreOwn es rs own → AreOwn es rs (own ++ None ∷ [])
  own_push {rs = []} n r count there none = absurd (cc)
  own_push {rs = x ∷ rs} n r count there none = more tt none
  own_push zero r count there (more q qs) = absurd (omega (arith, count))
  own_push (suc n) r count there (more q qs) = more q (own_push n r (omega (arith, count)) there qs)

  -- what is noted of a file
  pub own_at : {rs : List ParsedOf} {own : Own} (n : ℕ) (r : ParsedOf) (one : Option (List Fault)) → slice_get rs n ≡ Some r → slice_get own n ≡ Some one → AreOwn es rs own → IsOwn es r one
  own_at n r one there noted none = absurd (cc)
  own_at zero r one there noted (more {r = x} {one = y} q qs) =
      let same : x ≡ r = cc in
      let same_one : y ≡ one = cc in
      subst (λ (z : ParsedOf). IsOwn es z one) same (subst (IsOwn es x) same_one q)
  own_at (suc n) r one there noted (more q qs) = own_at n r one there noted qs

  -- another thing is noted of it
  pub own_noted : {rs : List ParsedOf} {own : Own} (n : ℕ) (r : ParsedOf) (one : Option (List Fault)) → slice_get rs n ≡ Some r → IsOwn es r one → AreOwn es rs own → AreOwn es rs (set own n one)
  own_noted n r one there is none = none
  own_noted zero r one there is (more {r = x} q qs) = let same : x ≡ r = cc in more (subst (λ (z : ParsedOf). IsOwn es z one) (sym same) is) qs
  own_noted (suc n) r one there is (more q qs) = more q (own_noted n r one there is qs)

-- what is found is known
pub found_own : (es : List EntryOf) (r : ParsedOf) (one : Option (List Fault)) → IsFoundOwn es r one → IsOwn es r one
found_own es r None f = absurd f
found_own es r (Some faults) f = f

-- what is looked at in place
pub get_some : {X : Type 0} (xs : List X) (n : ℕ) (x : X) → n < length xs → x ≡ get_or xs n x → slice_get xs n ≡ Some x
get_some [] n x h e = absurd (omega (arith, h))
get_some {X} (y ∷ xs) zero x h e = ap (λ (z : X). Some z) (sym e)
get_some (y ∷ xs) (suc n) x h e = get_some xs n x (omega (arith, h)) e

get_set : {X : Type 0} (xs : List X) (n : ℕ) (x : X) → n < length xs → slice_get (set xs n x) n ≡ Some x
get_set [] n x h = absurd (omega (arith, h))
get_set (y ∷ xs) zero x h = refl
get_set (y ∷ xs) (suc n) x h = get_set xs n x (omega (arith, h))

module _ (es : List EntryOf) (rs : List ParsedOf) (own : Own) (n : ℕ) (r : ParsedOf) (there : slice_get rs n ≡ Some r) (was is : Option (List Fault)) (inside : n < length own) (noted : was ≡ get_or own n was) (are : AreOwn es rs own) where
  was_own : IsOwn es r was
  was_own = own_at es n r was there (get_some own n was inside noted) are

  -- the own faults of a file are found, or want of memory leaves what was noted
  pub slot_found : {T E : Type 0} (result : Result T E) → OnOk result (IsOwn es r was → IsFoundOwn es r is) → OnErr result (is ≡ was) → AreOwn es rs (set own n is)
  slot_found (Ok x) ok err = own_noted es n r is there (found_own es r is (ok was_own)) are
  slot_found (Err e) ok err = own_noted es n r is there (subst (IsOwn es r) (sym err) was_own) are

  pub slot_known : (IsOwn es r was → IsFoundOwn es r is) → IsFoundAt es r n (set own n is)
  slot_known ok one at = let same : is ≡ one = (let e = get_set own n is inside in cc) in subst (IsFoundOwn es r) same (ok was_own)

-- no rule tells the type systems apart
module _ (es us : List EntryOf) (alike : AreAlikeToRules es us) where
  other_file : (r : ParsedOf) (one : Option (List Fault)) → IsOwn es r one → IsOwn us r one
  other_file r None q = tt
  other_file r (Some faults) q = λ f.
      let u = alike (alone es 0 r).operations (alone es 0 r).fragments f in (
        (λ c. let l = (q f).0 c in (l.0, u.0 l.1)),
        (λ l. (q f).1 (l.0, u.1 l.1)),
      )

  pub own_other : {rs : List ParsedOf} {own : Own} → AreOwn es rs own → AreOwn us rs own
  own_other none = none
  own_other (more {r = r} {one = one} q qs) = more (other_file r one q) (own_other qs)

-- one of the readings
pub reading_there : (readings : List SharedParsed) (n : ℕ) (r : SharedParsed) → n < length readings → r ≡ get_or readings n r → slice_get (readings_view readings) n ≡ Some (shared_view r)
reading_there [] n r h e = absurd (omega (arith, h))
reading_there (x ∷ readings) zero r h e = ap (λ (z : SharedParsed). Some (shared_view z)) (sym e)
reading_there (x ∷ readings) (suc n) r h e = reading_there readings n r (omega (arith, h)) e

-- ---- the faults of all files

pub from_append : {X : Type 0} (xs ys : List X) (z : X) → Contains (xs ++ ys) z → Contains xs z ⊎ Contains ys z
from_append [] ys z c = inr c
from_append (x ∷ xs) ys z c = ⊎_elim (λ e. inl (first x z xs e)) (λ d. ⊎_elim (λ l. inl (later x z xs l)) (λ r. inr r) (from_append xs ys z d)) (cases_cons x z (xs ++ ys) c)

pub to_append_left : {X : Type 0} (xs ys : List X) (z : X) → Contains xs z → Contains (xs ++ ys) z
to_append_left [] ys z c = nothing_in z c
to_append_left (x ∷ xs) ys z c = ⊎_elim (λ e. first x z (xs ++ ys) e) (λ d. later x z (xs ++ ys) (to_append_left xs ys z d)) (cases_cons x z xs c)

pub to_append_right : {X : Type 0} (xs ys : List X) (z : X) → Contains ys z → Contains (xs ++ ys) z
to_append_right [] ys z c = c
to_append_right (x ∷ xs) ys z c = later x z (xs ++ ys) (to_append_right xs ys z c)

in_range : {X : Type 0} (xs : List X) (n : ℕ) (x : X) → slice_get xs n ≡ Some x → n < length xs
in_range [] n x e = absurd (cc)
in_range (y ∷ xs) zero x e = omega arith
in_range (y ∷ xs) (suc n) x e = let h = in_range xs n x e in omega (arith, h)

-- those of the first files are there
abbrev pub AreGathered : List EntryOf → List ParsedOf → ℕ → List Fault → Type 0
AreGathered es rs n all = (f : Fault) → Contains all f ↔ ((f.file < n) × IsOfItsFile es rs f)

pub gathered_none : (es : List EntryOf) (rs : List ParsedOf) → AreGathered es rs 0 []
gathered_none es rs f = ((λ c. nothing_in f c), (λ h. absurd (let below : f.file < 0 = h.0 in omega (arith, below))))

pub gathered_all : (es : List EntryOf) (rs : List ParsedOf) (n : ℕ) (all : List Fault) → length rs ≤ n → AreGathered es rs n all → (f : Fault) → Contains all f ↔ IsOfItsFile es rs f
gathered_all es rs n all h g f = (
  (λ c. ((g f).0 c).1),
  (λ i. (g f).1 ((let below = in_range rs f.file i.0 i.1 in omega (arith, below, h)), i)),
)

module _ (unseen : NumbersOfFilesAreUnseen) (es : List EntryOf) (rs : List ParsedOf) (n : ℕ) (r : ParsedOf) (there : slice_get rs n ≡ Some r) (faults : List Fault) (are : AreOwnOf es r faults) where
  pub gathered_more : (all : List Fault) → AreGathered es rs n all → AreGathered es rs (n + 1) (all ++ map (in_file n) faults)
  gathered_more all g f = (
    (λ c. ⊎_elim
        (λ l. let h = (g f).0 l in ((let below : f.file < n = h.0 in omega (arith, below)), h.1))
        (λ d. let h = (own_of_file unseen es rs n r there faults are f).0 d in ((let at : f.file ≡ n = h.0 in omega (arith, at)), h.1))
        (from_append all (map (in_file n) faults) f c)),
    (λ h. by_number (is_below f.file n h.0) h.1),
  )
    where
      is_below : (k m : ℕ) → k < m + 1 → (k < m) ⊎ (k ≡ m)
      is_below zero zero h = inr refl
      is_below zero (suc m) h = inl (omega arith)
      is_below (suc k) zero h = absurd (omega (arith, h))
      is_below (suc k) (suc m) h = ⊎_elim (λ l. inl (omega (arith, l))) (λ e. inr (ap suc e)) (is_below k m (omega (arith, h)))

      by_number : (f.file < n) ⊎ (f.file ≡ n) → IsOfItsFile es rs f → Contains (all ++ map (in_file n) faults) f
      by_number (inl below) i = to_append_left all (map (in_file n) faults) f ((g f).1 (below, i))
      by_number (inr at) i = to_append_right all (map (in_file n) faults) f ((own_of_file unseen es rs n r there faults are f).1 (at, i))

-- what is put behind is what is known of the file
pub gathered_found : (unseen : NumbersOfFilesAreUnseen) (es : List EntryOf) (rs : List ParsedOf) (n : ℕ) (r : ParsedOf) → slice_get rs n ≡ Some r → (one : Option (List Fault)) → IsFoundOwn es r one →
    (all : List Fault) → AreGathered es rs n all → AreGathered es rs (n + 1) (all ++ own_in n one)
gathered_found unseen es rs n r there None f all g = absurd f
gathered_found unseen es rs n r there (Some faults) f all g = gathered_more unseen es rs n r there faults f all g
