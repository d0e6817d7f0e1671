-- The rows of names hold the numbers of the names that are spread.
use Rattle.std.proofs.Common.{◌≡◌, ℕ, zero, suc, ◌+◌, ◌<◌, Bool, true, false, List, [], ◌∷◌, length, map, refl, sym, ◌∙◌, ap, subst, arith, Contains, Option, Some, None, Vec, Global}
use Rattle.std.specs.Prelude.{All, IfSome, slice_get, nat_eq, if◌then◌else◌, flat_map}
use Rattle.std.specs.List.{enumerate_from}
use Rattle.std.specs.Option.{option_map_or}
use Rattle.std.proofs.lemmas.Bool.{eqb-true, eq-eqb}
use Rattle.std.proofs.lemmas.List.{length-map}
use Rattle.std.proofs.lemmas.List.Elements.{All-contains}
use Rattle.std.proofs.lemmas.Option.{none-some, same_Some, slice_get_within}
use Rattle.gq_text.specs.declared.place.Span.{Span}
use Rattle.gq_tree.specs.Names.{spread_names}
use Rattle.gq_tree.specs.Plain.{NameOf}
use Rattle.gq_graph.specs.Reach.{row, InRange}
use Rattle.gq_types.specs.Entries.{Text}
use Rattle.gq_types.proofs.Gathered.{nothing_in, first, from_flat, to_flat, only}
use Rattle.gq_document.specs.Definitions.{FragmentOf}
use Rattle.gq_spreads.specs.Spreads.{places_from}
use Rattle.gq_spreads.specs.Helping.Rows.{texts, row_items}
use Rattle.gq_spreads.specs.Helping.NameRows.{first_number, first_numbers_of, first_numbers, spreads_at, is_first_at, name_row, row_at, IsNameStep, AreNameRows}
use Rattle.gq_spreads.proofs.PlaceLemmas.{from_place, to_place}
use Rattle.gq_spreads.proofs.RowLemmas.{stands, number_of, at_number, row_of, rows_count, rows_below}

-- the first of a list
first_of_any : (ns : List ℕ) (n : ℕ) → Contains ns n → (m : ℕ) × (slice_get ns 0 ≡ Some m)
first_of_any [] n there = nothing_in n there
first_of_any (m ∷ ns) n there = (m, refl)

pub first_below : (ns : List ℕ) (count : ℕ) (o : Option ℕ) → o ≡ slice_get ns 0 → All (λ n. n < count) ns → IfSome o (λ n. n < count)
first_below ns count None is all = tt
first_below ns count (Some n) is all = All-contains (λ m. m < count) ns n all (stands ns 0 n (sym is))

-- a fragment's name has a number
pub has_number : (fs : List FragmentOf) (f : FragmentOf) → Contains fs f → (m : ℕ) × (first_number (texts fs) f.name.text ≡ Some m)
has_number fs f there =
    let j = number_of fs f there in
    first_of_any (places_from 0 f.name.text (texts fs)) (0 + j.0) (to_place 0 f.name.text fs j.0 f j.1 refl)

-- at the number of a name stands a fragment of that name
pub named_at : (fs : List FragmentOf) (text : Text) (m : ℕ) → first_number (texts fs) text ≡ Some m → (f : FragmentOf) × (slice_get fs m ≡ Some f) × (text ≡ f.name.text)
named_at fs text m is =
    let p = from_place 0 text fs m (stands (places_from 0 text (texts fs)) 0 m is) in
    let here : p.0 ≡ m = omega (arith, p.2) in
    (p.1, subst (λ n. slice_get fs n ≡ Some p.1) here p.3, p.4)

pub number_below : (fs : List FragmentOf) (text : Text) (m : ℕ) → first_number (texts fs) text ≡ Some m → m < length fs
number_below fs text m is = let f = named_at fs text m is in slice_get_within fs m f.0 f.1

-- names of one number are one name
pub same_name : (fs : List FragmentOf) (a b : Text) (m : ℕ) → first_number (texts fs) a ≡ Some m → first_number (texts fs) b ≡ Some m → a ≡ b
same_name fs a b m h k =
    let f = named_at fs a m h in
    let g = named_at fs b m k in
    f.2 ∙ ap (λ (t : FragmentOf). t.name.text) (same_Some f.0 g.0 (sym f.1 ∙ g.1)) ∙ sym g.2

-- the numbers of names
from_option : (o : Option ℕ) (k : ℕ) → Contains (option_map_or (λ n. n ∷ []) o []) k → o ≡ Some k
from_option None k found = nothing_in k found
from_option (Some n) k found = ap Some (sym (only n k found))

to_option : (o : Option ℕ) (k : ℕ) → o ≡ Some k → Contains (option_map_or (λ n. n ∷ []) o []) k
to_option o k is = subst (λ q. Contains (option_map_or (λ (n : ℕ). n ∷ []) q []) k) (sym is) (first k k [] refl)

pub is_first : (o : Option ℕ) (m : ℕ) → option_map_or (λ n. nat_eq n m) o false ≡ true → o ≡ Some m
is_first None m h = absurd (cc)
is_first (Some n) m h = ap Some (eqb-true n m h)

pub first_is : (o : Option ℕ) (m : ℕ) → o ≡ Some m → option_map_or (λ n. nat_eq n m) o false ≡ true
first_is o m is = subst (λ q. option_map_or (λ (n : ℕ). nat_eq n m) q false ≡ true) (sym is) (eq-eqb m m refl)

module _ (fs : List FragmentOf) where
  from_spreads : (place : ℕ) (f : FragmentOf) → slice_get fs place ≡ Some f → (k : ℕ) → Contains (spreads_at (texts fs) fs place) k →
      (name : NameOf Span) × Contains (spread_names f.set) name × (first_number (texts fs) name.text ≡ Some k)
  from_spreads place f at k found =
      let told = subst (λ o. Contains (option_map_or (λ (g : FragmentOf). first_numbers (texts fs) (spread_names g.set)) o []) k) at found in
      let r = from_flat (first_numbers_of (texts fs)) (spread_names f.set) k told in
      (r.0, r.1, from_option (first_number (texts fs) r.0.text) k r.2)

  to_spreads : (place : ℕ) (f : FragmentOf) → slice_get fs place ≡ Some f → (name : NameOf Span) → Contains (spread_names f.set) name → (k : ℕ) → first_number (texts fs) name.text ≡ Some k →
      Contains (spreads_at (texts fs) fs place) k
  to_spreads place f at name there k is =
      subst (λ o. Contains (option_map_or (λ (g : FragmentOf). first_numbers (texts fs) (spread_names g.set)) o []) k) (sym at)
      (to_flat (first_numbers_of (texts fs)) (spread_names f.set) name k there (to_option (first_number (texts fs) name.text) k is))

  from_row : (m : ℕ) (text : Text) (k : ℕ) → Contains (name_row (texts fs) fs m text) k → IsNameStep fs m k
  from_row m text k found = by_test (is_first_at (texts fs) m text) refl found
    where
      by_test : (b : Bool) → is_first_at (texts fs) m text ≡ b → Contains (if b then flat_map (spreads_at (texts fs) fs) (places_from 0 text (texts fs)) else []) k → IsNameStep fs m k
      by_test false is told = nothing_in k told
      by_test true is told =
          let r = from_flat (spreads_at (texts fs) fs) (places_from 0 text (texts fs)) k told in
          let p = from_place 0 text fs r.0 r.1 in
          let here : p.0 ≡ r.0 = omega (arith, p.2) in
          let at : slice_get fs r.0 ≡ Some p.1 = subst (λ n. slice_get fs n ≡ Some p.1) here p.3 in
          let s = from_spreads r.0 p.1 at k r.2 in
          record {
            fragment = p.1;
            stands = stands fs r.0 p.1 at;
            from = subst (λ t. first_number (texts fs) t ≡ Some m) p.4 (is_first (first_number (texts fs) text) m is);
            name = s.0;
            spread = s.1;
            to = s.2;
          }

  to_row : (m k : ℕ) (s : IsNameStep fs m k) → Contains (name_row (texts fs) fs m s.fragment.name.text) k
  to_row m k s =
      let text = s.fragment.name.text in
      let n = number_of fs s.fragment s.stands in
      let here : 0 + n.0 ≡ n.0 = omega arith in
      let place : Contains (places_from 0 text (texts fs)) n.0 = subst (λ q. Contains (places_from 0 text (texts fs)) q) here (to_place 0 text fs n.0 s.fragment n.1 refl) in
      subst (λ b. Contains (if b then flat_map (spreads_at (texts fs) fs) (places_from 0 text (texts fs)) else []) k) (sym (first_is (first_number (texts fs) text) m s.from))
      (to_flat (spreads_at (texts fs) fs) (places_from 0 text (texts fs)) n.0 k place (to_spreads n.0 s.fragment n.1 s.name s.spread k s.to))

-- items by their numbers
pub enumerated_at : {X : Type 0} (k : ℕ) (xs : List X) (j : ℕ) (x : X) → slice_get xs j ≡ Some x → slice_get (enumerate_from k xs) j ≡ Some (k + j, x)
enumerated_at k [] j x at = absurd (none-some x at)
enumerated_at k (y ∷ xs) zero x at =
    let here : k ≡ k + 0 = omega arith in
    λ i. Some (here i, same_Some y x at i)
enumerated_at {X} k (y ∷ xs) (suc j) x at =
    let there : (k + 1) + j ≡ k + suc j = omega arith in
    subst (λ n. slice_get (enumerate_from (k + 1) xs) j ≡ Some (n, x)) there (enumerated_at (k + 1) xs j x at)

pub length_enumerated : {X : Type 0} (k : ℕ) (xs : List X) → length (enumerate_from k xs) ≡ length xs
length_enumerated k [] = refl
length_enumerated k (x ∷ xs) = ap suc (length_enumerated (k + 1) xs)

pub text_at : (fs : List FragmentOf) (n : ℕ) (f : FragmentOf) → slice_get fs n ≡ Some f → slice_get (texts fs) n ≡ Some f.name.text
text_at [] n f at = absurd (none-some f at)
text_at (g ∷ fs) zero f at = ap (λ (t : FragmentOf). Some t.name.text) (same_Some g f at)
text_at (g ∷ fs) (suc n) f at = text_at fs n f at

row_inside : (rows : List (Vec ℕ Global)) (m k : ℕ) → Contains (row rows m) k → m < length rows
row_inside [] m k found = nothing_in k found
row_inside (v ∷ vs) zero k found = omega arith
row_inside (v ∷ vs) (suc m) k found = let rest = row_inside vs m k found in omega (arith, rest)

module _ (fs : List FragmentOf) (rows : List (Vec ℕ Global)) (are : row_items rows ≡ map (row_at (texts fs) fs) (enumerate_from 0 (texts fs))) where
  row_is : (m : ℕ) (f : FragmentOf) → slice_get fs m ≡ Some f → row rows m ≡ name_row (texts fs) fs m f.name.text
  row_is m f at =
      let here : 0 + m ≡ m = omega arith in
      row_of (row_at (texts fs) fs) rows (enumerate_from 0 (texts fs)) are m (0 + m, f.name.text) (enumerated_at 0 (texts fs) m f.name.text (text_at fs m f at))
      ∙ ap (λ (n : ℕ). name_row (texts fs) fs n f.name.text) here

  count_is : length rows ≡ length fs
  count_is = rows_count (row_at (texts fs) fs) rows (enumerate_from 0 (texts fs)) are ∙ length_enumerated 0 (texts fs) ∙ length-map fs (λ (f : FragmentOf). f.name.text)

  to_step : (m k : ℕ) → Contains (row rows m) k → IsNameStep fs m k
  to_step m k found =
      let below : m < length fs = subst (λ n. m < n) count_is (row_inside rows m k found) in
      let f = at_number fs m below in
      from_row fs m f.0.name.text k (subst (λ ns. Contains ns k) (row_is m f.0 f.1) found)

  from_step : (m k : ℕ) → IsNameStep fs m k → Contains (row rows m) k
  from_step m k s =
      let f = named_at fs s.fragment.name.text m s.from in
      subst (λ ns. Contains ns k) (sym (row_is m f.0 f.1))
      (subst (λ t. Contains (name_row (texts fs) fs m t) k) f.2 (to_row fs m k s))

  pub are_name_rows : AreNameRows fs rows
  are_name_rows = record { count = count_is; steps = λ m k. (to_step m k, from_step m k) }

-- each number in the rows has a row
pub names_in_range : (fs : List FragmentOf) (rows : List (Vec ℕ Global)) → AreNameRows fs rows → InRange rows
names_in_range fs rows are = rows_below rows (length rows) (λ m n below found.
    let s : IsNameStep fs m n = (are.steps m n).0 found in
    omega (arith, number_below fs s.name.text n s.to, are.count))
