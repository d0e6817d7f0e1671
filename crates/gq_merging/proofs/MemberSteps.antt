-- Members in the code's rows and tables.
use Rattle.std.proofs.Common.{◌≡◌, ℕ, zero, suc, ◌<◌, List, [], ◌∷◌, ◌++◌, Option, Some, None, All, Contains, map, length, refl, sym, ◌∙◌, ap, subst, arith, inl, inr, Vec, Global, Bool, ⊎_elim, append-nil, get_or}
use Rattle.std.specs.List.{slice_get, flat_map}
use Rattle.std.specs.Option.{option_map, option_map_or}
use Rattle.std.specs.Prelude.{unwrap_or}
use Rattle.std.proofs.lemmas.List.{length-map}
use Rattle.std.proofs.lemmas.Option.{slice_get-map, slice_get_within}
use Rattle.std.proofs.lemmas.List.Elements.{All-contains, All-weaker, All-contains_itself}
use Rattle.gq_names.proofs.RepeatLemmas.{contains_none, contains_later, contains_first}
use Rattle.gq_graph.specs.Reach.{Reach, start, step, row, InRange}
use Rattle.gq_document.specs.Executable.{ExecutableOf}
use Rattle.gq_merging.specs.Helping.SetTables.{RowOf, IsRow, AreRows, members_at, spreads_at}
use Rattle.gq_merging.specs.Helping.StartTables.{Passes}
use Rattle.gq_merging.specs.Helping.Views.{members_view, row_view, rows_view}
use Rattle.gq_merging.specs.declared.rows.Row.{Row}
use Rattle.gq_types.proofs.Gathered.{from_map_as as from_map, to_map}

pub members_of_row : (rows : List Row) (n : ℕ) (r : Row) → slice_get rows n ≡ Some r → members_at (rows_view rows) n ≡ members_view r.members.items
members_of_row rows n r e = ap (λ (o : Option RowOf). option_map_or (λ (r : RowOf). r.members) o []) (slice_get-map row_view rows n ∙ ap (option_map row_view) e)

pub members_past : (rows : List Row) (n : ℕ) → slice_get rows n ≡ None → members_at (rows_view rows) n ≡ []
members_past rows n e = ap (λ (o : Option RowOf). option_map_or (λ (r : RowOf). r.members) o []) (slice_get-map row_view rows n ∙ ap (option_map row_view) e)

-- the fields of a set that stands alone
pub lone_members : (rows : List RowOf) (numbers : List ℕ) → length numbers ≡ 1 → members_at rows (get_or numbers 0 0) ≡ flat_map (members_at rows) numbers
lone_members rows [] one = absurd (omega (arith, one))
lone_members rows (n ∷ []) one = sym (append-nil (members_at rows n))
lone_members rows (n ∷ m ∷ rest) one = absurd (omega (arith, one))

row_is : (table : List (Vec ℕ Global)) (n : ℕ) → row table n ≡ unwrap_or (slice_get (map (λ (v : Vec ℕ Global). v.items) table) n) []
row_is [] n = refl
row_is (v ∷ table) zero = refl
row_is (v ∷ table) (suc n) = row_is table n

spreads_are : (rows : List Row) (n : ℕ) → spreads_at (rows_view rows) n ≡ unwrap_or (slice_get (map (λ (r : Row). r.spreads.items) rows) n) []
spreads_are [] n = refl
spreads_are (r ∷ rows) zero = refl
spreads_are (r ∷ rows) (suc n) = spreads_are rows n

pub reach_alike : (f g : ℕ → List ℕ) (starts : List ℕ) → ((n : ℕ) → f n ≡ g n) → (k : ℕ) → Reach starts f k → Reach starts g k
reach_alike f g starts same k (start c) = start c
reach_alike f g starts same k (step {m = m} h c) = step (reach_alike f g starts same m h) (subst (λ ns. Contains ns k) (same m) c)

pub row_there : (table : List (Vec ℕ Global)) (m k : ℕ) → Contains (row table m) k → (v : Vec ℕ Global) × Contains table v × Contains v.items k
row_there [] m k c = absurd (contains_none k c)
row_there (v ∷ table) zero k c = (v, contains_first v table v refl, c)
row_there (v ∷ table) (suc m) k c = let r = row_there table m k c in (r.0, contains_later v table r.0 r.1, r.2)

module _ (rows : List Row) (table : List (Vec ℕ Global)) (same : map (λ v. v.items) table ≡ map (λ r. r.spreads.items) rows) where
  pub alike : (n : ℕ) → row table n ≡ spreads_at (rows_view rows) n
  alike n = row_is table n ∙ ap (λ ls. unwrap_or (slice_get ls n) []) same ∙ sym (spreads_are rows n)

  pub count_alike : length table ≡ length (rows_view rows)
  count_alike = sym (length-map table (λ v. v.items)) ∙ ap length same ∙ length-map rows (λ r. r.spreads.items) ∙ sym (length-map rows row_view)

  pub passes_alike : (marks passed : List Bool) → Passes (row table) marks passed → Passes (spreads_at (rows_view rows)) marks passed
  passes_alike marks passed p = record {
    count = p.count;
    why = λ n e. ⊎_elim inl
        (λ h. inr (record { from = h.from; within = h.within; stays = h.stays; reach = reach_alike (row table) (spreads_at (rows_view rows)) (h.from ∷ []) alike n h.reach }))
        (p.why n e);
  }

  -- a set leads to sets that have rows
  pub spreads_inside : InRange table → (n k : ℕ) → Contains (spreads_at (rows_view rows) n) k → k < length rows
  spreads_inside range n k c =
      let v = row_there table n k (subst (λ ns. Contains ns k) (sym (alike n)) c) in
      subst (λ m. k < m) (count_alike ∙ length-map rows row_view)
      (All-contains (λ n. n < length table) v.0.items k (All-contains (λ v. All (λ n. n < length table) v.items) table v.0 range v.1) v.2)

  pub spreads_in_range : (x : ExecutableOf) → AreRows x (rows_view rows) → InRange table
  spreads_in_range x a =
      let sets = map (λ r. r.set) (rows_view rows) in
      let count : length sets ≡ length table = length-map (rows_view rows) (λ r. r.set) ∙ sym count_alike in
      All-weaker (Contains table) (λ v. All (λ n. n < length table) v.items)
      (λ v c.
      let q = from_map (λ (r : Row). r.spreads.items) rows v.items (subst (λ ls. Contains ls v.items) same (to_map (λ (v : Vec ℕ Global). v.items) table v c)) in
      let w : IsRow x sets (row_view q.0) = All-contains (IsRow x sets) (rows_view rows) (row_view q.0) a.each (to_map row_view rows q.0 q.1) in
      All-weaker (Contains v.items) (λ n. n < length table)
      (λ n d. let i = w.inside n (subst (λ ns. Contains ns n) q.2 d) in subst (λ m. n < m) count (slice_get_within sets n i.set i.is_set))
      v.items (All-contains_itself v.items))
      table (All-contains_itself table)

pub append_nothing : {A : Type 0} (xs : List A) → xs ++ [] ≡ xs
append_nothing [] = refl
append_nothing (x ∷ xs) = ap (λ ys. x ∷ ys) (append_nothing xs)

-- the same, as the code has the rows and the table
pub spreads_seen_in_range : (x : ExecutableOf) (rows seen : List Row) (table there : List (Vec ℕ Global)) → AreRows x (rows_view rows) →
    map (λ v. v.items) table ≡ map (λ r. r.spreads.items) seen → seen ≡ rows → there ≡ table → InRange there
spreads_seen_in_range x rows seen table there a e same is = subst InRange (sym is) (spreads_in_range rows table (e ∙ ap (map (λ (r : Row). r.spreads.items)) same) x a)
