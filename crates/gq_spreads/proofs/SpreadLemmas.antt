-- The rows lead to the fragments that are reached.
use Rattle.std.proofs.Common.{◌≡◌, ℕ, ◌<◌, List, ◌++◌, length, get_or, map, sym, subst, arith, Contains, Some, Vec, Global}
use Rattle.std.specs.Prelude.{All, slice_get, filter}
use Rattle.std.specs.Bool.{nat_lt}
use Rattle.std.specs.List.{enumerate_from}
use Rattle.std.proofs.lemmas.Bool.{lt-ltb, ltb-true}
use Rattle.std.proofs.lemmas.List.Elements.{All-contains, Contains-get_or}
use Rattle.std.proofs.lemmas.Option.{slice_get_within}
use Rattle.gq_graph.specs.Reach.{Reach, row}
use Rattle.gq_graph.proofs.Walking.{row_below_all}
use Rattle.gq_types.specs.Entries.{Text}
use Rattle.gq_types.proofs.Gathered.{from_filter, to_filter}
use Rattle.gq_document.specs.Definitions.{OperationOf, FragmentOf}
use Rattle.gq_document.specs.Executable.{ExecutableOf}
use Rattle.gq_spreads.specs.Helping.Links.{operation_links, fragment_links, group_at, links}
use Rattle.gq_spreads.specs.Helping.Rows.{texts, row_items}
use Rattle.gq_spreads.specs.Spreads.{LeadToReached, AreSpreads, AreReached}
use Rattle.gq_spreads.specs.declared.spreads.Spreads.{Spreads}
use Rattle.gq_spreads.proofs.LinkLemmas.{count, fragment_row, lead_to_reached, links_inside, in_range}
use Rattle.gq_spreads.proofs.RowLemmas.{at_number, row_of, rows_count, rows_below}

abbrev pub AreRows : List Text → ExecutableOf → Spreads → Type 0
AreRows ts x s = (row_items s.of_operations.items ≡ map (operation_links ts) x.operations)
    × (row_items s.of_fragments.items ≡ map (fragment_links ts) x.fragments ++ map (group_at ts) (enumerate_from 0 ts))

module _ (x : ExecutableOf) (s : Spreads) (are : AreRows (texts x.fragments) x s) where
  abbrev fs : List FragmentOf
  fs = x.fragments

  operations_count : length s.of_operations.items ≡ length x.operations
  operations_count = rows_count (operation_links (texts fs)) s.of_operations.items x.operations are.0

  operation_row : (n : ℕ) (o : OperationOf) → slice_get x.operations n ≡ Some o → row s.of_operations.items n ≡ links (texts fs) o.set
  operation_row n o at = row_of (operation_links (texts fs)) s.of_operations.items x.operations are.0 n o at

  are_spreads_of : AreSpreads x s
  are_spreads_of = record {
    operations = operations_count;
    fragments = omega (arith, count fs s.of_fragments.items are.1);
    starts = rows_below s.of_operations.items (length s.of_fragments.items)
        (λ m k below found.
        let o = at_number x.operations m (omega (arith, below, operations_count)) in
        links_inside fs s.of_fragments.items are.1 o.0.set k (subst (λ ns. Contains ns k) (operation_row m o.0 o.1) found));
    range = in_range fs s.of_fragments.items are.1;
    of_operation = λ n o at. subst (λ starts. LeadToReached fs s.of_fragments.items starts o.set) (sym (operation_row n o at)) (lead_to_reached fs s.of_fragments.items are.1 o.set);
    of_fragment = λ n f at. subst (λ starts. LeadToReached fs s.of_fragments.items starts f.set)
        (sym (fragment_row fs s.of_fragments.items are.1 n f at)) (lead_to_reached fs s.of_fragments.items are.1 f.set);
  }

pub are_spreads : (x : ExecutableOf) (s : Spreads) (ts : List Text) → ts ≡ texts x.fragments → AreRows ts x s → AreSpreads x s
are_spreads x s ts names are = are_spreads_of x s (subst (λ us. AreRows us x s) names are)

-- what is below a count in all rows is so in one
pub row_inside : (rows : List (Vec ℕ Global)) (count : ℕ) → All (λ v. All (λ k. k < count) v.items) rows → (n : ℕ) → All (λ k. k < count) (row rows n)
row_inside rows count all n i d inside = row_below_all rows count n (get_or (row rows n) i d) all (Contains-get_or (row rows n) i d inside)

-- those that are reached by rows and are fragments' numbers
module _ (x : ExecutableOf) (s : Spreads) (are : AreSpreads x s) (n : ℕ) where
  reached_by_rows : (found numbers : List ℕ) → All (λ k. Reach (row s.of_operations.items n) (row s.of_fragments.items) k) found
      → ((k : ℕ) → Reach (row s.of_operations.items n) (row s.of_fragments.items) k → Contains found k) → numbers ≡ filter (λ k. nat_lt k (length x.fragments)) found → AreReached x n numbers
  reached_by_rows found numbers sound complete is o at k = (
    λ there.
        let kept = from_filter (λ m. nat_lt m (length x.fragments)) found k (subst (λ ns. Contains ns k) is there) in
        (are.of_operation n o at k (ltb-true k (length x.fragments) kept.1)).0 (All-contains (λ m. Reach (row s.of_operations.items n) (row s.of_fragments.items) m) found k sound kept.0),
    λ r.
        let below = slice_get_within x.fragments k r.fragment r.at in
        subst (λ ns. Contains ns k) (sym is) (to_filter (λ m. nat_lt m (length x.fragments)) found k (complete k ((are.of_operation n o at k below).1 r)) (lt-ltb k (length x.fragments) below)),
  )

  pub are_reached : (starts : List ℕ) (rows : List (Vec ℕ Global)) → starts ≡ row s.of_operations.items n → rows ≡ s.of_fragments.items
      → (found numbers : List ℕ) → All (λ k. Reach starts (row rows) k) found
      → ((k : ℕ) → Reach starts (row rows) k → Contains found k) → numbers ≡ filter (λ k. nat_lt k (length x.fragments)) found → AreReached x n numbers
  are_reached starts rows first all found numbers sound complete is =
      reached_by_rows found numbers
      (subst (λ (l : List ℕ). All (λ k. Reach l (row s.of_fragments.items) k) found) first (subst (λ (t : List (Vec ℕ Global)). All (λ k. Reach starts (row t) k) found) all sound))
      (λ k way. complete k (subst (λ (t : List (Vec ℕ Global)). Reach starts (row t) k) (sym all) (subst (λ (l : List ℕ). Reach l (row s.of_fragments.items) k) (sym first) way)))
      is
