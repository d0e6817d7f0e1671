-- Rows of a table, and what stands in lists by its number.
use Rattle.std.proofs.Common.{◌≡◌, ℕ, zero, suc, ◌<◌, List, [], ◌∷◌, length, get_or, map, refl, sym, ◌∙◌, ap, subst, arith, Contains, Some, Vec, Global}
use Rattle.std.specs.Prelude.{All, slice_get}
use Rattle.std.proofs.lemmas.List.{length-map}
use Rattle.std.proofs.lemmas.List.Elements.{Contains-get_or}
use Rattle.std.proofs.lemmas.Option.{none-some, same_Some, slice_get-get_or}
use Rattle.gq_graph.specs.Reach.{row}
use Rattle.gq_graph.proofs.Searching.{row_at}
use Rattle.gq_spreads.specs.Helping.Rows.{row_items}

-- what stands at a number stands in the list
pub stands : {X : Type 0} (xs : List X) (n : ℕ) (x : X) → slice_get xs n ≡ Some x → Contains xs x
stands [] n x at = absurd (none-some x at)
stands (y ∷ ys) zero x at = (0, omega arith, same_Some y x at)
stands (y ∷ ys) (suc n) x at = let rest = stands ys n x at in (suc rest.0, omega (arith, rest.1), rest.2)

-- a number below the length is that of an item
pub at_number : {X : Type 0} (xs : List X) (n : ℕ) → n < length xs → (x : X) × (slice_get xs n ≡ Some x)
at_number [] n below = absurd (omega (arith, below))
at_number (x ∷ xs) zero below = (x, refl)
at_number (x ∷ xs) (suc n) below = at_number xs n (omega (arith, below))

-- what stands in the list has a number
pub number_of : {X : Type 0} (xs : List X) (x : X) → Contains xs x → (n : ℕ) × (slice_get xs n ≡ Some x)
number_of xs x (n, below, is) = (n, slice_get-get_or xs n x below ∙ ap Some is)

pub row_is : (rows : List (Vec ℕ Global)) (n : ℕ) → row rows n ≡ get_or (row_items rows) n []
row_is [] n = refl
row_is (v ∷ vs) zero = refl
row_is (v ∷ vs) (suc n) = row_is vs n

pub map_at : {X : Type 0} (f : X → List ℕ) (xs : List X) (n : ℕ) (x : X) → slice_get xs n ≡ Some x → get_or (map f xs) n [] ≡ f x
map_at f [] n x at = absurd (none-some x at)
map_at f (y ∷ ys) zero x at = ap f (same_Some y x at)
map_at f (y ∷ ys) (suc n) x at = map_at f ys n x at

pub row_of : {X : Type 0} (f : X → List ℕ) (rows : List (Vec ℕ Global)) (xs : List X) → row_items rows ≡ map f xs → (n : ℕ) (x : X) → slice_get xs n ≡ Some x → row rows n ≡ f x
row_of f rows xs is n x at = row_is rows n ∙ ap (λ ns. get_or ns n []) is ∙ map_at f xs n x at

pub rows_count : {X : Type 0} (f : X → List ℕ) (rows : List (Vec ℕ Global)) (xs : List X) → row_items rows ≡ map f xs → length rows ≡ length xs
rows_count f rows xs is = sym (length-map rows (λ v. v.items)) ∙ ap length is ∙ length-map xs f

-- what is below a count in each row
pub rows_below : (rows : List (Vec ℕ Global)) (count : ℕ) → ((m n : ℕ) → m < length rows → Contains (row rows m) n → n < count) → All (λ v. All (λ n. n < count) v.items) rows
rows_below rows count below k d inside k' d' inside' =
    below k (get_or (get_or rows k d).items k' d') inside
    (subst (λ ns. Contains ns (get_or (get_or rows k d).items k' d')) (sym (row_at rows k d inside)) (Contains-get_or (get_or rows k d).items k' d' inside'))
