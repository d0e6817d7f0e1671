-- A search among files that have the keys of documents finds what a search among the documents finds.
use Rattle.std.proofs.Common.{◌≡◌, ℕ, zero, suc, ◌<◌, ◌≤◌, Bool, true, false, List, [], ◌∷◌, length, get_or, drop, map, Some, None, Result, Ok, Err, IfOk, IfErr, find, refl, sym, ◌∙◌, ap, subst, arith}
use Rattle.std.specs.List.{HoldsAt, AllWithin}
use Rattle.std.specs.List.Sorted.{IsBinarySearchResult, IsSearchInRange, IsNonDecreasingBy}
use Rattle.std.specs.Ordering.{is_eq, ordering_index}
use Rattle.std.specs.declared.cmp.Ordering.{Ordering}
use Rattle.std.specs.declared.cmp.Ordering.TheVariants.{Less, Equal, Greater}
use Rattle.std.proofs.lemmas.List.{length-map}
use Rattle.std.proofs.lemmas.Map.Text.{is_eq-slice_cmp}
use Rattle.gq_project.specs.declared.document.Doc.{Doc}
use Rattle.gq_project.specs.Documents.{IsInOrder, has_key}
use Rattle.gq_project.specs.Helping.Places.{IsPlaceOf, IsGapFor}
use Rattle.gq_project.proofs.Keys.{key_cmp, searched}
use Rattle.gq_index.specs.declared.files.File.{File}

some_of : {X : Type 0} (xs : List X) (i : ℕ) → i < length xs → X
some_of [] i below = absurd (omega arith)
some_of (x ∷ xs) i below = x

-- lists of the same keys
module _ {X Y : Type 0} (f : X → List ℕ) (g : Y → List ℕ) where
  as_many : (xs : List X) (ys : List Y) → map f xs ≡ map g ys → length xs ≡ length ys
  as_many xs ys same = sym (length-map xs f) ∙ ap length same ∙ length-map ys g

  same_at : (xs : List X) (ys : List Y) → map f xs ≡ map g ys → (i : ℕ) (x : X) (y : Y) → i < length xs → f (get_or xs i x) ≡ g (get_or ys i y)
  same_at [] ys same i x y below = absurd (omega arith)
  same_at (a ∷ xs) [] same i x y below = let count = as_many (a ∷ xs) [] same in absurd (omega arith)
  same_at (a ∷ xs) (b ∷ ys) same zero x y below = ap (λ (l : List (List ℕ)). get_or l 0 []) same
  same_at (a ∷ xs) (b ∷ ys) same (suc i) x y below = same_at xs ys (ap (λ (l : List (List ℕ)). drop 1 l) same) i x y (omega arith)

  module _ (ord : List ℕ → Ordering) (xs : List X) (ys : List Y) (same : map f xs ≡ map g ys) where
    rise_too : IsNonDecreasingBy (λ y. ordering_index (ord (g y))) ys → IsNonDecreasingBy (λ x. ordering_index (ord (f x))) xs
    rise_too rise i j x upto below =
        let count = as_many xs ys same in
        let y : Y = some_of ys j (omega arith) in
        rw (same_at xs ys same i x y (omega arith), same_at xs ys same j x y below) (rise i j y upto (omega arith))

    within_too : (r : Ordering) (low high : ℕ) → high ≤ length xs → AllWithin (λ x. ord (f x) ≡ r) xs low high → AllWithin (λ y. ord (g y) ≡ r) ys low high
    within_too r low high inside h k y from below =
        let x : X = some_of xs k (omega arith) in
        subst (λ (a : List ℕ). ord a ≡ r) (same_at xs ys same k x y (omega arith)) (h k x from below)

    pub at_too : (i : ℕ) → i < length xs → HoldsAt (λ x. ord (f x) ≡ Equal) xs i → HoldsAt (λ y. ord (g y) ≡ Equal) ys i
    at_too i below h y =
        let x : X = some_of xs i below in
        subst (λ (a : List ℕ). ord a ≡ Equal) (same_at xs ys same i x y below) (h x)

    found_too : (r : Result ℕ ℕ) → IsSearchInRange r (length xs) → IsBinarySearchResult (λ x. ord (f x)) xs r → IsBinarySearchResult (λ y. ord (g y)) ys r
    found_too (Ok i) below at = at_too i below at
    found_too (Err i) upto parted = λ rise.
        let parts = parted (rise_too rise) in
        (within_too Less 0 i upto parts.0, subst (λ n. AllWithin (λ y. ord (g y) ≡ Greater) ys i n) (as_many xs ys same) (within_too Greater i (length xs) (omega arith) parts.1))

-- where a key is found, a document has it
found_somewhere : (ds : List Doc) (k : List ℕ) (i : ℕ) → i < length ds → HoldsAt (λ d. key_cmp d.key k ≡ Equal) ds i → find (has_key k) ds ≡ None → ⊥
found_somewhere [] k i below h none = absurd (omega arith)
found_somewhere (d ∷ ds) k zero below h none =
    let here : has_key k d ≡ true = sym (is_eq-slice_cmp d.key k) ∙ ap is_eq (h d) in
    let clash : Some d ≡ None = rw here at none in cc
found_somewhere (d ∷ ds) k (suc i) below h none = by (has_key k d) refl (λ later. found_somewhere ds k i (omega arith) h later)
  where
    by : (b : Bool) → has_key k d ≡ b → (find (has_key k) ds ≡ None → ⊥) → ⊥
    by true e rest = let clash : Some d ≡ None = rw e at none in cc
    by false e rest = rest (rw e at none)

module _ (files : List File) (documents : List Doc) (keyed : map (λ f. f.key) files ≡ map (λ d. d.key) documents) (k : List ℕ) where
  pub searched_documents : IsInOrder documents → (r : Result ℕ ℕ) → IsSearchInRange r (length files) → IsBinarySearchResult (λ f. key_cmp f.key k) files r
      → record { found : IfOk r (IsPlaceOf (λ d. d.key) k documents); absent : IfErr r (IsGapFor (λ d. d.key) k documents) }
  searched_documents in_order r bound is =
      searched (λ d. d.key) documents in_order k r (subst (λ n. IsSearchInRange r n) (as_many (λ f. f.key) (λ d. d.key) files documents keyed) bound)
      (found_too (λ f. f.key) (λ d. d.key) (λ a. key_cmp a k) files documents keyed r bound is)

  pub not_absent : (i : ℕ) → i < length files → HoldsAt (λ f. key_cmp f.key k ≡ Equal) files i → find (has_key k) documents ≡ None → ⊥
  not_absent i below at =
      found_somewhere documents k i (subst (λ n. i < n) (as_many (λ f. f.key) (λ d. d.key) files documents keyed) below)
      (at_too (λ f. f.key) (λ d. d.key) (λ a. key_cmp a k) files documents keyed i below at)
