-- Spreads of fragments that lead to a use reach all fragments with a use.
use Rattle.std.proofs.Common.{◌≡◌, ℕ, zero, suc, ◌+◌, ◌<◌, ◌≤◌, Bool, true, false, List, [], ◌∷◌, Contains, Option, Some, length, map, get_or, refl, sym, ◌∙◌, ap, subst, arith, nat_eq, replicate, Vec, Global, ◌⊎◌, ⊎_elim, inl, inr}
use Rattle.std.specs.Prelude.{All, filter, not, slice_get, slice_index_or}
use Rattle.std.specs.Option.{option_map_or, option_map}
use Rattle.std.proofs.Math.Dec.{eqb-suc-zero}
use Rattle.std.proofs.lemmas.Bool.{false≢true, cases_lt}
use Rattle.std.proofs.lemmas.Option.{slice_get-map, slice_get_within}
use Rattle.std.proofs.lemmas.List.{length-map, get_or-replicate, get_or_past, length-replicate}
use Rattle.std.proofs.lemmas.List.Elements.{All-nil, All-cons, All-append, All-weaker, All-contains, Contains-get_or, Contains-append_left, Contains-append_right}
use Rattle.gq_names.specs.UnderNames.{one_if}
use Rattle.gq_graph.specs.Reach.{Reach, start, step, row, InRange}
use Rattle.gq_graph.specs.Transposed.{Transposed}
use Rattle.gq_graph.specs.Components.{Also}
use Rattle.gq_graph.proofs.Searching.{row_at as row_read_at}
use Rattle.gq_graph.proofs.Walking.{row_below_all}
use Rattle.gq_types.proofs.Gathered.{nothing_in, first, from_filter, to_filter}
use Rattle.gq_document.specs.Definitions.{FragmentOf}
use Rattle.gq_document.specs.Executable.{ExecutableOf}
use Rattle.gq_spreads.specs.Spreads.{AreSpreads}
use Rattle.gq_spreads.specs.declared.spreads.Spreads.{Spreads}
use Rattle.gq_variables.specs.Uses.{UseOf}
use Rattle.gq_variables.specs.Helping.UsesPlaces.{fragment_uses, row_at}
use Rattle.gq_variables.specs.Helping.Leading.{numbers_with_uses, LeadToUses, AreLeading, AreInParts, AreLeadingInParts}

-- a row with a use has its number
not_empty : (us : List UseOf) (u : UseOf) → Contains us u → not (nat_eq (length us) 0) ≡ true
not_empty [] u there = absurd (omega (arith, there.1))
not_empty (v ∷ us) u there = ap not (eqb-suc-zero (length us))

pub used_number : (k : ℕ) (rows : List (List UseOf)) (n : ℕ) (u : UseOf) → Contains (row_at rows n) u → Contains (numbers_with_uses k rows) (k + n)
used_number k [] n u there = nothing_in u there
used_number k (r ∷ rows) zero u there =
    let here : k ≡ k + 0 = omega arith in
    Contains-append_left (one_if (not (nat_eq (length r) 0)) k) (numbers_with_uses (k + 1) rows) (k + 0)
    (subst (λ b. Contains (one_if b k) (k + 0)) (sym (not_empty r u there)) (first k (k + 0) [] here))
used_number k (r ∷ rows) (suc n) u there =
    let shift : (k + 1) + n ≡ k + suc n = omega arith in
    Contains-append_right (one_if (not (nat_eq (length r) 0)) k) (numbers_with_uses (k + 1) rows) (k + suc n)
    (subst (λ m. Contains (numbers_with_uses (k + 1) rows) m) shift (used_number (k + 1) rows n u there))

one_below : (b : Bool) (k limit : ℕ) → k < limit → All (λ n. n < limit) (one_if b k)
one_below true k limit below = All-cons (λ n. n < limit) k [] below (All-nil (λ n. n < limit))
one_below false k limit below = All-nil (λ n. n < limit)

pub numbers_below : (k : ℕ) (rows : List (List UseOf)) → All (λ n. n < k + length rows) (numbers_with_uses k rows)
numbers_below k [] = All-nil (λ n. n < k + 0)
numbers_below k (r ∷ rows) =
    All-append (λ n. n < k + length (r ∷ rows)) (one_if (not (nat_eq (length r) 0)) k) (numbers_with_uses (k + 1) rows)
    (one_below (not (nat_eq (length r) 0)) k (k + length (r ∷ rows)) (omega arith))
    (All-weaker (λ n. n < (k + 1) + length rows) (λ n. n < k + length (r ∷ rows)) (λ n h. omega (arith, h)) (numbers_with_uses (k + 1) rows) (numbers_below (k + 1) rows))

-- what is marked beside nothing
unmarked : (n i : ℕ) → get_or (replicate n false) i false ≡ true → ⊥
unmarked n i h = ⊎_elim
    (λ q. false≢true (sym (get_or-replicate n i false false q) ∙ h))
    (λ q. false≢true (sym (get_or_past (replicate n false) i false (subst (λ l. l ≤ i) (sym (length-replicate n false)) q)) ∙ h))
    (cases_lt i n)

pub lead_to_uses : (rows : List (List UseOf)) (spreads back : List (Vec ℕ Global)) (numbers leading : List ℕ) (count : ℕ) (marks : List Bool) → numbers ≡ numbers_with_uses 0 rows → Transposed spreads back
    → All (λ n. Reach numbers (row back) n) leading → ((n : ℕ) → Reach numbers (row back) n → Contains leading n) → Also leading (replicate count false) marks → LeadToUses (row spreads) rows marks
lead_to_uses rows spreads back numbers leading count marks are turned sound complete also = record {
  used = λ k u there.
      let same : 0 + k ≡ k = omega arith in
      mark k (complete k (start (subst (λ l. Contains l k) (sym are) (subst (λ m. Contains (numbers_with_uses 0 rows) m) same (used_number 0 rows k u there)))));
  closed = λ m k there marked.
      mark m (complete m (step (All-contains (λ n. Reach numbers (row back) n) leading k sound (found k marked)) (turned.complete m k there)));
}
  where
    mark : (k : ℕ) → Contains leading k → slice_index_or marks k false ≡ true
    mark k there = All-contains (λ n. slice_index_or marks n false ≡ true) leading k also.put there

    found : (k : ℕ) → slice_index_or marks k false ≡ true → Contains leading k
    found k marked = ⊎_elim (λ before. absurd (unmarked count k before)) (λ there. there) (also.only k marked)

-- rows of which what is marked was kept
abbrev pub Kept : List Bool → (old new : List (Vec ℕ Global)) → Type 0
Kept marks old new = map (λ v. v.items) new ≡ map (λ v. filter (λ n. slice_index_or marks n false) v.items) old

row_lists : (rows : List (Vec ℕ Global)) (n : ℕ) → row rows n ≡ get_or (map (λ v. v.items) rows) n []
row_lists [] n = refl
row_lists (v ∷ rows) zero = refl
row_lists (v ∷ rows) (suc n) = row_lists rows n

filtered_at : (marks : List Bool) (rows : List (Vec ℕ Global)) (n : ℕ) → get_or (map (λ v. filter (λ k. slice_index_or marks k false) v.items) rows) n [] ≡ filter (λ k. slice_index_or marks k false) (row rows n)
filtered_at marks [] n = refl
filtered_at marks (v ∷ rows) zero = refl
filtered_at marks (v ∷ rows) (suc n) = filtered_at marks rows n

kept_row : (marks : List Bool) (old new : List (Vec ℕ Global)) → Kept marks old new → (n : ℕ) → row new n ≡ filter (λ k. slice_index_or marks k false) (row old n)
kept_row marks old new kept n = row_lists new n ∙ ap (λ l. get_or l n []) kept ∙ filtered_at marks old n

from_kept : (marks : List Bool) (old new : List (Vec ℕ Global)) → Kept marks old new → (n k : ℕ) → Contains (row new n) k → Contains (row old n) k
from_kept marks old new kept n k there = (from_filter (λ k. slice_index_or marks k false) (row old n) k (subst (λ l. Contains l k) (kept_row marks old new kept n) there)).0

to_kept : (marks : List Bool) (old new : List (Vec ℕ Global)) → Kept marks old new → (n k : ℕ) → Contains (row old n) k → slice_index_or marks k false ≡ true → Contains (row new n) k
to_kept marks old new kept n k there marked = subst (λ l. Contains l k) (sym (kept_row marks old new kept n)) (to_filter (λ k. slice_index_or marks k false) (row old n) k there marked)

kept_count : (marks : List Bool) (old new : List (Vec ℕ Global)) → Kept marks old new → length new ≡ length old
kept_count marks old new kept = sym (length-map new (λ v. v.items)) ∙ ap length kept ∙ length-map old (λ v. filter (λ n. slice_index_or marks n false) v.items)

-- numbers that are kept are reached in both ways
module _ (x : ExecutableOf) (s leading : Spreads) (are : AreSpreads x s) (rows : List (List UseOf)) (rows_are : rows ≡ map (fragment_uses x.entries) x.fragments)
    (marks : List Bool) (lead : LeadToUses (row s.of_fragments.items) rows marks)
    (operations : Kept marks s.of_operations.items leading.of_operations.items) (fragments : Kept marks s.of_fragments.items leading.of_fragments.items) where
  narrower : (n k : ℕ) → Reach (row leading.of_operations.items n) (row leading.of_fragments.items) k → Reach (row s.of_operations.items n) (row s.of_fragments.items) k
  narrower n k (start there) = start (from_kept marks s.of_operations.items leading.of_operations.items operations n k there)
  narrower n k (step {m = m} way there) = step (narrower n m way) (from_kept marks s.of_fragments.items leading.of_fragments.items fragments m k there)

  wider : (n k : ℕ) → slice_index_or marks k false ≡ true → Reach (row s.of_operations.items n) (row s.of_fragments.items) k → Reach (row leading.of_operations.items n) (row leading.of_fragments.items) k
  wider n k marked (start there) = start (to_kept marks s.of_operations.items leading.of_operations.items operations n k there marked)
  wider n k marked (step {m = m} way there) =
      step (wider n m (lead.closed m k there marked) way) (to_kept marks s.of_fragments.items leading.of_fragments.items fragments m k there marked)

  used_at : (k : ℕ) (f : FragmentOf) (u : UseOf) → slice_get x.fragments k ≡ Some f → Contains (fragment_uses x.entries f) u → slice_index_or marks k false ≡ true
  used_at k f u at there = lead.used k u (subst (λ us. Contains us u) (sym row_is) there)
    where
      row_is : row_at rows k ≡ fragment_uses x.entries f
      row_is =
          ap (λ l. row_at l k) rows_are
          ∙ ap (λ (r : Option (List UseOf)). option_map_or (λ (row : List UseOf). row) r [])
          (slice_get-map (fragment_uses x.entries) x.fragments k ∙ ap (option_map (fragment_uses x.entries)) at)

  count : length leading.of_fragments.items ≡ length s.of_fragments.items
  count = kept_count marks s.of_fragments.items leading.of_fragments.items fragments

  in_range : (m n : ℕ) → Contains (row s.of_fragments.items m) n → n < length leading.of_fragments.items
  in_range m n there = subst (λ c. n < c) (sym count) (row_below_all s.of_fragments.items (length s.of_fragments.items) m n are.range there)

  starts_in_range : (m n : ℕ) → Contains (row s.of_operations.items m) n → n < length leading.of_fragments.items
  starts_in_range m n there = subst (λ c. n < c) (sym count) (row_below_all s.of_operations.items (length s.of_fragments.items) m n are.starts there)

  pub are_leading : AreLeading x leading
  are_leading = record {
    operations = kept_count marks s.of_operations.items leading.of_operations.items operations ∙ are.operations;
    range = λ k d lt i e b.
        let v : Vec ℕ Global = get_or leading.of_fragments.items k d in
        let at : row leading.of_fragments.items k ≡ v.items = row_read_at leading.of_fragments.items k d lt in
        let m : ℕ = get_or v.items i e in
        let here : Contains (row leading.of_fragments.items k) m = subst (λ l. Contains l m) (sym at) (Contains-get_or v.items i e b) in
        in_range k m (from_kept marks s.of_fragments.items leading.of_fragments.items fragments k m here);
    starts = λ n i e b.
        let m : ℕ = get_or (row leading.of_operations.items n) i e in
        starts_in_range n m (from_kept marks s.of_operations.items leading.of_operations.items operations n m (Contains-get_or (row leading.of_operations.items n) i e b));
    sound = λ n o k at below way. (are.of_operation n o at k below).0 (narrower n k way);
    complete = λ n o k f u at at_fragment used reached.
        wider n k (used_at k f u at_fragment used) ((are.of_operation n o at k (slice_get_within x.fragments k f at_fragment)).1 reached);
  }

-- marks turned over
inverted_at : (marks : List Bool) (k : ℕ) → k < length marks → slice_index_or marks k false ≡ false → slice_index_or (map not marks) k false ≡ true
inverted_at [] k lt h = absurd (omega (arith, lt))
inverted_at (b ∷ bs) zero lt h = ap not h
inverted_at (b ∷ bs) (suc k) lt h = inverted_at bs k (omega (arith, lt)) h

-- what is kept by marks, and what by the others
pub in_parts : (old new : Spreads) (own : List (Vec ℕ Global)) (several alone : List Bool) → alone ≡ map not several → length several ≡ length old.of_fragments.items →
    All (λ v. All (λ n. n < length old.of_fragments.items) v.items) old.of_operations.items → new.of_fragments.items ≡ old.of_fragments.items →
    Kept several old.of_operations.items new.of_operations.items → Kept alone old.of_operations.items own → AreInParts old new own
in_parts old new own several alone turned count below fragments kept others = record {
  fragments = fragments;
  count = kept_count several old.of_operations.items new.of_operations.items kept;
  own_count = kept_count alone old.of_operations.items own others;
  of_shared = λ n k there. from_kept several old.of_operations.items new.of_operations.items kept n k there;
  of_own = λ n k there. from_kept alone old.of_operations.items own others n k there;
  all = λ n k there. by_mark n k there (slice_index_or several k false) refl;
}
  where
    by_mark : (n k : ℕ) → Contains (row old.of_operations.items n) k → (b : Bool) → slice_index_or several k false ≡ b → Contains (row new.of_operations.items n) k ⊎ Contains (row own n) k
    by_mark n k there true e = inl (to_kept several old.of_operations.items new.of_operations.items kept n k there e)
    by_mark n k there false e =
        let inside : k < length several = subst (λ c. k < c) (sym count) (row_below_all old.of_operations.items (length old.of_fragments.items) n k below there) in
        inr (to_kept alone old.of_operations.items own others n k there (subst (λ ms. slice_index_or ms k false ≡ true) (sym turned) (inverted_at several k inside e)))

-- a way begins in one of two parts of the starts
of_one_part : (starts one other : List ℕ) (next : ℕ → List ℕ) → ((k : ℕ) → Contains starts k → Contains one k ⊎ Contains other k) → (k : ℕ) → Reach starts next k → Reach one next k ⊎ Reach other next k
of_one_part starts one other next all k (start there) = ⊎_elim (λ a. inl (start a)) (λ b. inr (start b)) (all k there)
of_one_part starts one other next all k (step {m = m} way there) = ⊎_elim (λ a. inl (step a there)) (λ b. inr (step b there)) (of_one_part starts one other next all m way)

of_fewer : (fewer starts : List ℕ) (next : ℕ → List ℕ) → ((k : ℕ) → Contains fewer k → Contains starts k) → (k : ℕ) → Reach fewer next k → Reach starts next k
of_fewer fewer starts next among k (start there) = start (among k there)
of_fewer fewer starts next among k (step {m = m} way there) = step (of_fewer fewer starts next among m way) there

fewer_below : (fewer starts : List ℕ) (limit : ℕ) → ((k : ℕ) → Contains fewer k → Contains starts k) → All (λ k. k < limit) starts → All (λ k. k < limit) fewer
fewer_below fewer starts limit among all i e b = All-contains (λ k. k < limit) starts (get_or fewer i e) all (among (get_or fewer i e) (Contains-get_or fewer i e b))

pub rows_below : (rows : List (Vec ℕ Global)) (limit : ℕ) → ((n : ℕ) → All (λ k. k < limit) (row rows n)) → All (λ v. All (λ k. k < limit) v.items) rows
rows_below rows limit all i d b = subst (λ ns. All (λ k. k < limit) ns) (row_read_at rows i d b) (all i)

pub lead_in_parts : (x : ExecutableOf) (old new : Spreads) (own : List (Vec ℕ Global)) → AreLeading x old → AreInParts old new own → AreLeadingInParts x new own
lead_in_parts x old new own lead parts = record {
  operations = parts.count ∙ lead.operations;
  own_operations = parts.own_count ∙ lead.operations;
  range = subst InRange (sym parts.fragments) lead.range;
  starts = λ n. below n (row new.of_operations.items n) (parts.of_shared n);
  own_starts = λ n. below n (row own n) (parts.of_own n);
  sound = λ n o k at below way. lead.sound n o k at below (led n (row new.of_operations.items n) (parts.of_shared n) k way);
  own_sound = λ n o k at below way. lead.sound n o k at below (led n (row own n) (parts.of_own n) k way);
  complete = λ n o k f u at at_fragment used reached.
      subst (λ (fs : List (Vec ℕ Global)). Reach (row new.of_operations.items n) (row fs) k ⊎ Reach (row own n) (row fs) k) (sym parts.fragments)
      (of_one_part (row old.of_operations.items n) (row new.of_operations.items n) (row own n) (row old.of_fragments.items) (parts.all n) k (lead.complete n o k f u at at_fragment used reached));
}
  where
    below : (n : ℕ) (starts : List ℕ) → ((k : ℕ) → Contains starts k → Contains (row old.of_operations.items n) k) → All (λ k. k < length new.of_fragments.items) starts
    below n starts among =
        subst (λ (fs : List (Vec ℕ Global)). All (λ k. k < length fs) starts) (sym parts.fragments)
        (fewer_below starts (row old.of_operations.items n) (length old.of_fragments.items) among (lead.starts n))

    led : (n : ℕ) (starts : List ℕ) → ((k : ℕ) → Contains starts k → Contains (row old.of_operations.items n) k) → (k : ℕ) → Reach starts (row new.of_fragments.items) k →
        Reach (row old.of_operations.items n) (row old.of_fragments.items) k
    led n starts among k way =
        of_fewer starts (row old.of_operations.items n) (row old.of_fragments.items) among k
        (subst (λ (fs : List (Vec ℕ Global)). Reach starts (row fs) k) parts.fragments way)
