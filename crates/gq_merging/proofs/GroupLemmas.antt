-- A test that passes shows that the fields under all sets that it reaches merge.
use Rattle.std.proofs.Common.{◌≡◌, ℕ, zero, suc, ◌+◌, ◌≤◌, ◌<◌, Bool, List, [], ◌∷◌, ◌++◌, Some, All, Contains, map, length, take, refl, sym, ◌∙◌, ap, subst, arith, inl, inr, Vec, Global}
use Rattle.std.specs.List.{slice_get, flat_map}
use Rattle.std.specs.Option.{option_map}
use Rattle.std.proofs.lemmas.List.{length-append, take-append-le, take_all}
use Rattle.std.proofs.lemmas.List.Elements.{All-append, All-weaker, All-contains, All-more, All-nil, All-cons, Contains-append_left, Contains-append_right, Contains-append_cases}
use Rattle.std.proofs.lemmas.Option.{same_Some, none-some, get_or_from_slice_get}
use Rattle.gq_names.proofs.RepeatLemmas.{contains_none, contains_first, contains_later}
use Rattle.gq_graph.specs.Reach.{Reach, start, step, row}
use Rattle.gq_graph.proofs.Ways.{way_on, contains_one}
use Rattle.gq_tree.specs.Plain.{erase_values}
use Rattle.gq_tree.specs.Views.{argument_view}
use Rattle.gq_tree.specs.declared.tree.Selection.TheViews.{out-Field}
use Rattle.gq_tree.specs.declared.value.Argument.{Argument}
use Rattle.gq_types.specs.Entries.{EntryOf}
use Rattle.gq_document.specs.Executable.{ExecutableOf}
use Rattle.gq_document.specs.FieldSets.{SetOf, FieldAt, key, InSet, field_set}
use Rattle.gq_merging.specs.FieldsMerge.{Differ, in_shape, in_call}
use Rattle.gq_merging.specs.SameArguments.{SameArguments}
use Rattle.gq_merging.specs.Shapes.{shape_of}
use Rattle.gq_merging.specs.Helping.Groups.{MeetFrom, together, deeper, IsMerged, AreMerged}
use Rattle.gq_graph.specs.Components.{Also}
use Rattle.gq_merging.specs.Helping.GroupTables.{IsOfGroup, IsThrough, SayTheSame, IsUnder, AreBelow, GoTogether, AreSettled, IsSettled, IsReached, IsTest, ArePassed, IsTested, AreTested, IsKnown, as_empty, as_before, as_marked}
use Rattle.gq_merging.specs.Helping.SetTables.{MemberOf, RowOf, AreRows, AreAlike, IsMember, members_at, spreads_at}
use Rattle.gq_merging.specs.Helping.Views.{member_view, row_view, rows_view}
use Rattle.gq_merging.specs.declared.purpose.Purpose.{Purpose}
use Rattle.gq_merging.specs.declared.rows.Row.{Row}
use Rattle.gq_merging.proofs.ClassLemmas.{through_member}
use Rattle.gq_merging.proofs.CompareLemmas.{type_of}
use Rattle.gq_merging.proofs.MemberLemmas.{alike_in, alike_back, get_contains, get_below, map_get, to_found, found_member, member_in, row_of_member, members_there}
use Rattle.gq_merging.proofs.MemberSteps.{reach_alike, alike, count_alike}
use Rattle.gq_merging.proofs.SamenessLemmas.{same_when_erased}
use Rattle.gq_types.proofs.Gathered.{from_map_as as from_map, to_flat}

-- fields that say the same do not differ
same_do_not_differ : (es : List EntryOf) (purpose : Purpose) (a b : FieldAt) (left right : List Argument) → a.arguments ≡ map argument_view left → b.arguments ≡ map argument_view right →
    SayTheSame es a b → Differ es purpose a b → ⊥
same_do_not_differ es purpose a b left right ea eb h (in_shape t u ht hu apart) =
    let l = ap (option_map (shape_of es)) (type_of es a t ht) in
    let r = ap (option_map (shape_of es)) (type_of es b u hu) in
    apart (same_Some (shape_of es t) (shape_of es u) (sym l ∙ h.one_shape ∙ r))
same_do_not_differ es purpose a b left right ea eb h (in_call meet apart) =
    let e : erase_values (map argument_view left) ≡ erase_values (map argument_view right) = sym (ap erase_values ea) ∙ h.one_row ∙ ap erase_values eb in
    apart (record {
      one_name = h.one_name;
      same_arguments = subst (λ l. SameArguments l b.arguments) (sym ea) (subst (λ r. SameArguments (map argument_view left) r) (sym eb) (same_when_erased left right e));
    })

-- a member's arguments are the code's
code_arguments : (rows : List Row) (n : ℕ) (m : MemberOf) → Contains (members_at (rows_view rows) n) m → (given : List Argument) × (m.field_at.arguments ≡ map argument_view given)
code_arguments rows n m c =
    let r = row_of_member (rows_view rows) n m c in
    let q = map_get row_view rows n r.0 r.1 in
    let there : Contains (row_view q.0).members m = subst (λ ms. Contains ms m) (members_there (rows_view rows) n r.0 r.1 ∙ ap (λ (t : RowOf). t.members) (sym q.2)) c in
    let w = from_map member_view q.0.members.items m there in
    ((out-Field w.0.it.field.now).arguments.items, ap (λ (m : MemberOf). m.field_at.arguments) w.2)

-- two fields of one key that stand in one group
record InOneGroup (rows : List RowOf) (groups : List (List ℕ)) (a b : FieldAt) : Type 0 where
  pub group : List ℕ
  pub is_group : Contains groups group
  pub left : MemberOf
  pub right : MemberOf
  pub left_in : IsOfGroup rows group left
  pub right_in : IsOfGroup rows group right
  pub left_is : left.field_at ≡ a
  pub right_is : right.field_at ≡ b
  pub one_key : key a ≡ key b

module _ (x : ExecutableOf) (rows : List RowOf) (are : AreRows x rows) where
  -- the fields of a set that a group reaches are of the group
  of_reached : (n : ℕ) (r : RowOf) → slice_get rows n ≡ Some r → (group : List ℕ) → Reach group (spreads_at rows) n → (f : FieldAt) → InSet x r.set f → (m : MemberOf) × IsOfGroup rows group m × (m.field_at ≡ f)
  of_reached n r e group reach f i =
      let q = found_member x rows are r.set f n r (to_found x r.set f i) e refl in
      (q.0, record { reached = q.1.reached; reach = way_on group (spreads_at rows) n q.1.reached reach q.1.reach; stands = q.1.stands }, q.2)

  -- the fields in the braces of a field of a group are of the group below
  of_below : (group : List ℕ) (m : MemberOf) → IsOfGroup rows group m → (f : FieldAt) → m.field_at ≡ f → (below : List ℕ) → IsUnder rows m.below below →
      (c : FieldAt) → InSet x (field_set x.entries f) c → (w : MemberOf) × IsOfGroup rows below w × (w.field_at ≡ c)
  of_below group m h f is below under c i =
      let r = row_of_member rows h.reached m h.stands in
      let w = member_in x rows are h.reached r.0 r.1 m (record { reached = h.reached; reach = start (contains_first h.reached [] h.reached refl); stands = h.stands }) in
      let s = map_get (λ (r : RowOf). r.set) rows m.below w.1.set w.1.is_set in
      let alike : AreAlike w.1.set (field_set x.entries f) = subst (λ (g : FieldAt). AreAlike w.1.set (field_set x.entries g)) is w.1.alike in
      let there : InSet x w.1.set c = alike_in x (field_set x.entries f) w.1.set (alike_back w.1.set (field_set x.entries f) alike) c i in
      let q = found_member x rows are w.1.set c m.below s.0 (to_found x w.1.set c there) s.1 s.2 in
      (q.0, under.each q.0 q.1, q.2)

  module _ (groups : List (List ℕ)) (settled : All (IsSettled x.entries rows groups) groups) where
    go_together : (a b : FieldAt) (t : InOneGroup rows groups a b) → GoTogether x.entries rows groups t.left t.right
    go_together a b t =
        (All-contains (IsSettled x.entries rows groups) groups t.group settled t.is_group).each t.left t.right t.left_in t.right_in
        (ap key t.left_is ∙ t.one_key ∙ sym (ap key t.right_is))

    met_in_group : (purpose : Purpose) (n : ℕ) (r : RowOf) → slice_get rows n ≡ Some r → IsReached rows groups n → (c d : FieldAt) → MeetFrom x purpose r.set c d → InOneGroup rows groups c d
    met_in_group purpose n r e at c d (together k) =
        let p = of_reached n r e at.group at.reach c k.first in
        let q = of_reached n r e at.group at.reach d k.second in
        record { group = at.group; is_group = at.is_group; left = p.0; right = q.0; left_in = p.1; right_in = q.1; left_is = p.2; right_is = q.2; one_key = k.one_key }
    met_in_group purpose n r e at c d (deeper {a = a} {b = b} h leads k) =
        let t = met_in_group purpose n r e at a b h in
        let g = go_together a b t in
        let p = of_below t.group t.left t.left_in a t.left_is g.group g.left c k.first in
        let q = of_below t.group t.right t.right_in b t.right_is g.group g.right d k.second in
        record { group = g.group; is_group = g.is_group; left = p.0; right = q.0; left_in = p.1; right_in = q.1; left_is = p.2; right_is = q.2; one_key = k.one_key }

module _ (x : ExecutableOf) (rows : List Row) (are : AreRows x (rows_view rows)) where
  tested_merge : (n : ℕ) → IsTested x.entries (rows_view rows) n → (s : SetOf) → slice_get (map (λ r. r.set) (rows_view rows)) n ≡ Some s → IsMerged x s
  tested_merge n h s e =
      let q = map_get (λ (r : RowOf). r.set) (rows_view rows) n s e in
      record {
        none = λ purpose a b m differ.
            let t = met_in_group x (rows_view rows) are h.groups h.settled purpose n q.0 q.1 h.is_reached a b (subst (λ s. MeetFrom x purpose s a b) (sym q.2) m) in
            let g = go_together x (rows_view rows) are h.groups h.settled a b t in
            let l = code_arguments rows t.left_in.reached t.left t.left_in.stands in
            let r = code_arguments rows t.right_in.reached t.right t.right_in.stands in
            same_do_not_differ x.entries purpose t.left.field_at t.right.field_at l.0 r.0 l.1 r.1 g.same
            (subst (λ f. Differ x.entries purpose f t.right.field_at) (sym t.left_is) (subst (λ f. Differ x.entries purpose a f) (sym t.right_is) differ));
      }

  pub tested_merged : (marks : List Bool) → AreTested x.entries (rows_view rows) marks → AreMerged x (rows_view rows) marks
  tested_merged marks h = record { count = h.count; merged = λ n s e marked. tested_merge n (h.tested n marked) s e }

-- more groups
together_more : (es : List EntryOf) (rows : List RowOf) (groups more : List (List ℕ)) (a b : MemberOf) → ((g : List ℕ) → Contains groups g → Contains more g) → GoTogether es rows groups a b → GoTogether es rows more a b
together_more es rows groups more a b keeps g = record { same = g.same; group = g.group; is_group = keeps g.group g.is_group; left = g.left; right = g.right }

settled_more : (es : List EntryOf) (rows : List RowOf) (groups more : List (List ℕ)) (group : List ℕ) → ((g : List ℕ) → Contains groups g → Contains more g) → IsSettled es rows groups group → IsSettled es rows more group
settled_more es rows groups more group keeps h = record { each = λ a b ca cb k. together_more es rows groups more a b keeps (h.each a b ca cb k) }

reached_more : (rows : List RowOf) (groups more : List (List ℕ)) (n : ℕ) → ((g : List ℕ) → Contains groups g → Contains more g) → IsReached rows groups n → IsReached rows more n
reached_more rows groups more n keeps h = record { group = h.group; is_group = keeps h.group h.is_group; reach = h.reach }

-- one place more is done
one_more_done : (P : List ℕ → Type 0) (groups : List (List ℕ)) (place : ℕ) (group : List ℕ) → slice_get groups place ≡ Some group → place < length groups → All P (take place groups) → P group → All P (take (place + 1) groups)
one_more_done P groups place group at within before here =
    All-more P groups place group within before (subst P (sym (get_or_from_slice_get groups place group group at)) here)

module _ (es : List EntryOf) (rows : List Row) (table : List (Vec ℕ Global)) (same : map (λ v. v.items) table ≡ map (λ r. r.spreads.items) rows) where
  -- the fields of a group are those of all that it reaches
  pub among_found : (group found : List ℕ) (ms : List MemberOf) → ((k : ℕ) → Reach group (row table) k → Contains found k) → ms ≡ flat_map (members_at (rows_view rows)) found →
      (m : MemberOf) → IsOfGroup (rows_view rows) group m → Contains ms m
  among_found group found ms complete is m h =
      subst (λ ls. Contains ls m) (sym is)
      (to_flat (members_at (rows_view rows)) found h.reached m
      (complete h.reached (reach_alike (spreads_at (rows_view rows)) (row table) group (λ k. sym (alike rows table same k)) h.reached h.reach)) h.stands)

  module _ (groups below new : List (List ℕ)) (place : ℕ) (reached all_reached group found : List ℕ) (ms : List MemberOf)
      (test : IsTest es (rows_view rows) groups place reached) (at : slice_get groups place ≡ Some group) (within : place < length groups) (is_new : new ≡ groups ++ below) where
    in_new : (g : List ℕ) → Contains groups g → Contains new g
    in_new g c = subst (λ gs. Contains gs g) (sym is_new) (Contains-append_left groups below g c)

    keeps_old : (g : List ℕ) → Contains (groups ++ test.known) g → Contains (new ++ test.known) g
    keeps_old g c = elim (Contains-append_cases groups test.known g c) [
      | inl d ↦ Contains-append_left new test.known g (in_new g d)
      | inr d ↦ Contains-append_right new test.known g d
    ]

    keeps_below : (g : List ℕ) → Contains below g → Contains (new ++ test.known) g
    keeps_below g c = Contains-append_left new test.known g (subst (λ gs. Contains gs g) (sym is_new) (Contains-append_right groups below g c))

    group_settled : ((k : ℕ) → Reach group (row table) k → Contains found k) → ms ≡ flat_map (members_at (rows_view rows)) found → AreSettled es (rows_view rows) below ms → IsSettled es (rows_view rows) (new ++ test.known) group
    group_settled complete is h = record {
      each = λ a b ca cb k. together_more es (rows_view rows) below (new ++ test.known) a b keeps_below (h.each a b (among_found group found ms complete is a ca) (among_found group found ms complete is b cb) k);
    }

    found_reached : All (λ k. Reach group (row table) k) found → All (IsReached (rows_view rows) new) found
    found_reached sound =
        All-weaker (λ k. Reach group (row table) k) (IsReached (rows_view rows) new)
        (λ k h. record {
          group = group;
          is_group = in_new group (get_contains groups place group at);
          reach = reach_alike (row table) (spreads_at (rows_view rows)) group (alike rows table same) k h;
        }) found sound

    pub test_goes_on : All (λ k. Reach group (row table) k) found → ((k : ℕ) → Reach group (row table) k → Contains found k) → All (λ n. n < length table) found →
        ms ≡ flat_map (members_at (rows_view rows)) found → AreBelow (rows_view rows) below → AreSettled es (rows_view rows) below ms → all_reached ≡ reached ++ found →
        IsTest es (rows_view rows) new (place + 1) all_reached
    test_goes_on sound complete in_table is range h all =
        let P : List ℕ → Type 0 = IsSettled es (rows_view rows) (new ++ test.known) in
        let more = λ (g : List ℕ) (s : IsSettled es (rows_view rows) (groups ++ test.known) g). settled_more es (rows_view rows) (groups ++ test.known) (new ++ test.known) g keeps_old s in
        let part : take (place + 1) new ≡ take (place + 1) groups = ap (take (place + 1)) is_new ∙ take-append-le (place + 1) groups below (omega (arith, within)) in
        let count = ap length is_new ∙ length-append groups below in
        let rows_count : length table ≡ length (rows_view rows) = count_alike rows table same in
        record {
          range = subst (AreBelow (rows_view rows)) (sym is_new) (All-append (λ g. All (λ n. n < length (rows_view rows)) g) groups below test.range range);
          most = omega (arith, within, count);
          known = test.known;
          known_settled = All-weaker (IsSettled es (rows_view rows) (groups ++ test.known)) P more test.known test.known_settled;
          settled = subst (All P) (sym part)
              (one_more_done P groups place group at within (All-weaker (IsSettled es (rows_view rows) (groups ++ test.known)) P more (take place groups) test.settled) (group_settled complete is h));
          within = subst (All (λ n. n < length (rows_view rows))) (sym all) (All-append (λ n. n < length (rows_view rows)) reached found test.within (subst (λ c. All (λ n. n < c) found) rows_count in_table));
          from_groups = subst (All (IsReached (rows_view rows) new)) (sym all)
              (All-append (IsReached (rows_view rows) new) reached found
              (All-weaker (IsReached (rows_view rows) groups) (IsReached (rows_view rows) new) (λ n r. reached_more (rows_view rows) groups new n in_new r) reached test.from_groups) (found_reached sound));
        }

-- nothing is of a group of nothing
of_nothing : (next : ℕ → List ℕ) (n : ℕ) → Reach [] next n → ⊥
of_nothing next n (start c) = contains_none n c
of_nothing next n (step {m = m} h c) = of_nothing next m h

empty_settled : (es : List EntryOf) (rows : List RowOf) (groups : List (List ℕ)) → IsSettled es rows groups []
empty_settled es rows groups = record { each = λ a b ca cb k. absurd (of_nothing (spreads_at rows) ca.reached ca.reach) }

-- a set that a settled group reaches is a settled group
one_settled : (es : List EntryOf) (rows : List RowOf) (n : ℕ) (t : IsTested es rows n) → IsSettled es rows t.groups (n ∷ [])
one_settled es rows n t =
    let whole = All-contains (IsSettled es rows t.groups) t.groups t.is_reached.group t.settled t.is_reached.is_group in
    let wider : (m : MemberOf) → IsOfGroup rows (n ∷ []) m → IsOfGroup rows t.is_reached.group m
    = λ m h. record { reached = h.reached; reach = way_on t.is_reached.group (spreads_at rows) n h.reached t.is_reached.reach h.reach; stands = h.stands } in
    record { each = λ a b ca cb k. whole.each a b (wider a ca) (wider b cb) k }

contains_take : {A : Type 0} (xs : List A) (n i : ℕ) (y : A) → i < n → slice_get xs i ≡ Some y → Contains (take n xs) y
contains_take [] n i y l e = absurd (none-some y e)
contains_take (x ∷ xs) zero i y l e = absurd (omega (arith, l))
contains_take (x ∷ xs) (suc n) zero y l e = contains_first x (take n xs) y (same_Some x y e)
contains_take (x ∷ xs) (suc n) (suc i) y l e = contains_later x (take n xs) y (contains_take xs n i y (omega (arith, l)) e)

module _ (es : List EntryOf) (rows : List RowOf) (groups : List (List ℕ)) (place : ℕ) (reached : List ℕ) (test : IsTest es rows groups place reached) (within : place < length groups) where
  -- a settled group need not be looked at
  passes_over : (group : List ℕ) → slice_get groups place ≡ Some group → IsSettled es rows (groups ++ test.known) group → IsTest es rows groups (place + 1) reached
  passes_over group at h = record {
    range = test.range;
    most = omega (arith, within);
    known = test.known;
    known_settled = test.known_settled;
    settled = one_more_done (IsSettled es rows (groups ++ test.known)) groups place group at within test.settled h;
    within = test.within;
    from_groups = test.from_groups;
  }

  -- nor one that is a set that was tested
  passes_tested : (n : ℕ) → slice_get groups place ≡ Some (n ∷ []) → IsTested es rows n → IsTest es rows groups (place + 1) reached
  passes_tested n at t =
      let known = test.known ++ t.groups in
      let P : List ℕ → Type 0 = IsSettled es rows (groups ++ known) in
      let keeps : (g : List ℕ) → Contains (groups ++ test.known) g → Contains (groups ++ known) g
      = λ g c. elim (Contains-append_cases groups test.known g c) [
        | inl d ↦ Contains-append_left groups known g d
        | inr d ↦ Contains-append_right groups known g (Contains-append_left test.known t.groups g d)
      ] in
      let brings : (g : List ℕ) → Contains t.groups g → Contains (groups ++ known) g
      = λ g c. Contains-append_right groups known g (Contains-append_right test.known t.groups g c) in
      let more = λ (g : List ℕ) (s : IsSettled es rows (groups ++ test.known) g). settled_more es rows (groups ++ test.known) (groups ++ known) g keeps s in
      record {
        range = test.range;
        most = omega (arith, within);
        known = known;
        known_settled = All-append P test.known t.groups (All-weaker (IsSettled es rows (groups ++ test.known)) P more test.known test.known_settled)
            (All-weaker (IsSettled es rows t.groups) P (λ g s. settled_more es rows t.groups (groups ++ known) g brings s) t.groups t.settled);
        settled = one_more_done P groups place (n ∷ []) at within (All-weaker (IsSettled es rows (groups ++ test.known)) P more (take place groups) test.settled)
            (settled_more es rows t.groups (groups ++ known) (n ∷ []) brings (one_settled es rows n t));
        within = test.within;
        from_groups = test.from_groups;
      }

  pub passes_known : (marks : List Bool) → AreTested es rows marks → IsKnown groups marks place → IsTest es rows groups (place + 1) reached
  passes_known marks tested (as_empty at) = passes_over [] at (empty_settled es rows (groups ++ test.known))
  passes_known marks tested (as_before earlier before one) =
      let q = get_below groups place within in
      passes_over q.0 q.1
      (All-contains (IsSettled es rows (groups ++ test.known)) (take place groups) q.0 test.settled (contains_take groups place earlier q.0 before (one ∙ q.1)))
  passes_known marks tested (as_marked n at marked) = passes_tested n at (tested.tested n marked)

-- before the first test
pub none_passed : (es : List EntryOf) (rows : List RowOf) → ArePassed es rows []
none_passed es rows = record {
  range = All-nil (λ g. All (λ n. n < length rows) g);
  most = omega arith;
  known = [];
  known_settled = All-nil (IsSettled es rows []);
  settled = All-nil (IsSettled es rows []);
  within = All-nil (λ n. n < length rows);
  from_groups = All-nil (IsReached rows []);
}

-- a test begins with one group
pub test_begins : (es : List EntryOf) (rows : List RowOf) (groups : List (List ℕ)) (begin : List ℕ) → ArePassed es rows groups → All (λ n. n < length rows) begin →
    IsTest es rows (groups ++ begin ∷ []) (length groups) []
test_begins es rows groups begin h l =
    let new = groups ++ begin ∷ [] in
    let keeps : (g : List ℕ) → Contains (groups ++ h.known) g → Contains (new ++ h.known) g
    = λ g c. elim (Contains-append_cases groups h.known g c) [
      | inl d ↦ Contains-append_left new h.known g (Contains-append_left groups (begin ∷ []) g d)
      | inr d ↦ Contains-append_right new h.known g d
    ] in
    let more = λ (g : List ℕ) (s : IsSettled es rows (groups ++ h.known) g). settled_more es rows (groups ++ h.known) (new ++ h.known) g keeps s in
    let part : take (length groups) new ≡ take (length groups) groups = take-append-le (length groups) groups (begin ∷ []) (omega arith) in
    record {
      range = All-append (λ g. All (λ n. n < length rows) g) groups (begin ∷ []) h.range
          (All-cons (λ g. All (λ n. n < length rows) g) begin [] l (All-nil (λ g. All (λ n. n < length rows) g)));
      most = omega (arith, length-append groups (begin ∷ []));
      known = h.known;
      known_settled = All-weaker (IsSettled es rows (groups ++ h.known)) (IsSettled es rows (new ++ h.known)) more h.known h.known_settled;
      settled = subst (All (IsSettled es rows (new ++ h.known))) (sym part)
          (All-weaker (IsSettled es rows (groups ++ h.known)) (IsSettled es rows (new ++ h.known)) more (take (length groups) groups) h.settled);
      within = All-nil (λ n. n < length rows);
      from_groups = All-nil (IsReached rows new);
    }

-- a test that looked at all groups
pub test_passed : (es : List EntryOf) (rows : List RowOf) (groups : List (List ℕ)) (done : ℕ) (reached : List ℕ) → IsTest es rows groups done reached → length groups ≤ done → ArePassed es rows groups
test_passed es rows groups done reached h all = record {
  range = h.range;
  most = omega arith;
  known = h.known;
  known_settled = h.known_settled;
  settled = subst (λ n. All (IsSettled es rows (groups ++ h.known)) (take n groups)) (omega (arith, all, h.most)) h.settled;
  within = All-nil (λ n. n < length rows);
  from_groups = All-nil (IsReached rows groups);
}

-- where all groups are looked at, all that they reach is tested
pub test_ends : (es : List EntryOf) (rows : List RowOf) (groups : List (List ℕ)) (done : ℕ) (reached : List ℕ) → IsTest es rows groups done reached → length groups ≤ done → All (IsTested es rows) reached
test_ends es rows groups done reached h all =
    let settled : All (IsSettled es rows (groups ++ h.known)) groups = subst (All (IsSettled es rows (groups ++ h.known))) (take_all done groups all) h.settled in
    let both = All-append (IsSettled es rows (groups ++ h.known)) groups h.known settled h.known_settled in
    All-weaker (IsReached rows groups) (IsTested es rows)
    (λ n r. record { groups = groups ++ h.known; settled = both; is_reached = reached_more rows groups (groups ++ h.known) n (λ g c. Contains-append_left groups h.known g c) r }) reached h.from_groups

-- a set in which nothing stands is tested
pub nothing_is_tested : (es : List EntryOf) (rows : List RowOf) (n : ℕ) → ((m : MemberOf) → IsMember rows n m → ⊥) → IsTested es rows n
nothing_is_tested es rows n nothing = record {
  groups = (n ∷ []) ∷ [];
  settled = All-cons (IsSettled es rows ((n ∷ []) ∷ [])) (n ∷ []) []
      (record { each = λ a b ca cb k. absurd (nothing a (record { reached = ca.reached; reach = ca.reach; stands = ca.stands })) }) (All-nil (IsSettled es rows ((n ∷ []) ∷ [])));
  is_reached = record { group = n ∷ []; is_group = contains_first (n ∷ []) [] (n ∷ []) refl; reach = start (contains_first n [] n refl) };
}

-- nor is more than a fragment tested in a set in which its spread stands alone
pub through_is_tested : (es : List EntryOf) (rows : List RowOf) (n fragment : ℕ) → IsThrough rows n fragment → IsTested es rows fragment → IsTested es rows n
through_is_tested es rows n fragment through t =
    let more = (n ∷ []) ∷ t.groups in
    let keeps : (g : List ℕ) → Contains t.groups g → Contains more g = λ g c. contains_later (n ∷ []) t.groups g c in
    let of_fragment : (m : MemberOf) → IsOfGroup rows (n ∷ []) m → IsOfGroup rows (fragment ∷ []) m
    = λ m h. let g = through_member rows n fragment through m (record { reached = h.reached; reach = h.reach; stands = h.stands }) in record { reached = g.reached; reach = g.reach; stands = g.stands } in
    let fragment_settled = settled_more es rows t.groups more (fragment ∷ []) keeps (one_settled es rows fragment t) in
    let here : IsSettled es rows more (n ∷ []) = record { each = λ a b ca cb k. fragment_settled.each a b (of_fragment a ca) (of_fragment b cb) k } in
    record {
      groups = more;
      settled = All-cons (IsSettled es rows more) (n ∷ []) t.groups here
          (All-weaker (IsSettled es rows t.groups) (IsSettled es rows more) (λ g s. settled_more es rows t.groups more g keeps s) t.groups t.settled);
      is_reached = record { group = n ∷ []; is_group = contains_first (n ∷ []) t.groups (n ∷ []) refl; reach = start (contains_first n [] n refl) };
    }

-- one set more is marked
pub one_more_tested : (es : List EntryOf) (rows : List RowOf) (n : ℕ) (old new : List Bool) → length new ≡ length old → Also (n ∷ []) old new →
    IsTested es rows n → AreTested es rows old → AreTested es rows new
one_more_tested es rows n old new count marked here before = record {
  count = count ∙ before.count;
  tested = λ k e. elim (marked.only k e) [
    | inl was ↦ before.tested k was
    | inr c ↦ subst (IsTested es rows) (sym (contains_one n k c)) here
  ];
}
