-- Classes of sets in which the fields of one key say the same, and lead from class to class.
use Rattle.std.proofs.Common.{◌≡◌, ℕ, ◌+◌, ◌<◌, List, [], ◌∷◌, ◌++◌, ⊎_elim, All, Contains, length, map, take, get_or, sym, ◌∙◌, ap, subst, arith, Vec, Global}
use Rattle.std.specs.List.{flat_map}
use Rattle.std.proofs.lemmas.Bool.Decides.{eqb_tells}
use Rattle.std.proofs.lemmas.List.{length-map, map-append, take_more}
use Rattle.std.proofs.lemmas.List.Elements.{All-append, All-cons, All-contains, All-contains_itself, All-nil, All-weaker, Contains-get_or, Contains-push_cases}
use Rattle.gq_graph.specs.Reach.{Reach, start, row}
use Rattle.gq_graph.proofs.Searching.{row_at}
use Rattle.gq_graph.proofs.Turning.{row_below}
use Rattle.gq_graph.proofs.Ways.{way_starts}
use Rattle.gq_types.specs.Entries.{EntryOf}
use Rattle.gq_types.proofs.Gathered.{from_flat, from_map_as as from_map, to_map}
use Rattle.gq_merging.specs.Helping.GroupTables.{IsUnder, AreSettled, IsSettled, IsTested}
use Rattle.gq_merging.specs.Helping.GroupViews.{groups_view}
use Rattle.gq_merging.specs.Helping.SetTables.{MemberOf, RowOf, members_at, spreads_at}
use Rattle.gq_merging.specs.Helping.UnionTables.{AreUnions, IsInOne}
use Rattle.gq_merging.specs.Helping.Views.{row_view, rows_view}
use Rattle.gq_merging.specs.declared.rows.Row.{Row}
use Rattle.gq_merging.proofs.GroupLemmas.{among_found}
use Rattle.gq_merging.proofs.MemberSteps.{count_alike}
use Rattle.gq_merging.proofs.PartLemmas.{row_of, row_contained}

-- what holds of each so far, and of one more
pub each_more : (P : ℕ → Type 0) (ns : List ℕ) (i : ℕ) → i < length ns → ((n : ℕ) → Contains (take i ns) n → P n) → P (get_or ns i 0) → (n : ℕ) → Contains (take (i + 1) ns) n → P n
each_more P ns i inside before here n c = ⊎_elim (before n) (λ e. subst P e here) (Contains-push_cases (take i ns) (get_or ns i 0) n (subst (λ ms. Contains ms n) (take_more ns i 0 inside) c))

pub below_more : (P : ℕ → Type 0) (i : ℕ) → ((n : ℕ) → n < i → P n) → P i → (n : ℕ) → n < i + 1 → P n
below_more P i before here n l = ⊎_elim (λ e. subst P (sym e.1) here) (λ e. before n (omega (arith, l, e.1))) (eqb_tells n i)

pub groups_more : (P : List ℕ → Type 0) (gs : List (Vec ℕ Global)) (i : ℕ) (g : Vec ℕ Global) → i < length gs → get_or gs i g ≡ g → All P (groups_view (take i gs)) → P g.items → All P (groups_view (take (i + 1) gs))
groups_more P gs i g inside is before here =
    let more : take (i + 1) gs ≡ take i gs ++ g ∷ [] = take_more gs i g inside ∙ ap (λ v. take i gs ++ v ∷ []) is in
    subst (All P) (sym (ap groups_view more ∙ map-append (λ (v : Vec ℕ Global). v.items) (take i gs) (g ∷ [])))
    (All-append P (groups_view (take i gs)) (g.items ∷ []) before (All-cons P g.items [] here (All-nil P)))

-- a set that has one number alone
pub has_number : (table : List (Vec ℕ Global)) (n : ℕ) (v : Vec ℕ Global) (first class : ℕ) → n < length table → v ≡ get_or table n v → length v.items ≡ 1 → first ≡ get_or v.items 0 first → first ≡ class →
    Contains (row table n) class
has_number table n v first class inside is one at e =
    let there : row table n ≡ v.items = row_at table n v inside ∙ ap (λ (w : Vec ℕ Global). w.items) (sym is) in
    subst (λ ns. Contains ns class) (sym there) (subst (Contains v.items) (sym at ∙ e) (Contains-get_or v.items 0 first (omega (arith, one))))

-- a class that is read
pub class_read : (classes : List (Vec ℕ Global)) (class : ℕ) (v : Vec ℕ Global) (group : List ℕ) → class < length classes → v ≡ get_or classes class v → group ≡ v.items → group ≡ row classes class
class_read classes class v group inside is e = e ∙ ap (λ (w : Vec ℕ Global). w.items) is ∙ sym (row_at classes class v inside)

-- the sets of a class have rows
pub class_within : (spreads numbers classes : List (Vec ℕ Global)) → AreUnions spreads numbers classes → (class : ℕ) (group : List ℕ) → group ≡ row classes class → All (λ n. n < length spreads) group
class_within spreads numbers classes u class group is =
    All-weaker (Contains group) (λ n. n < length spreads)
    (λ n c. subst (λ count. n < count) u.count (row_below numbers n class (u.are.sound n class (subst (λ ns. Contains ns n) is c))))
    group (All-contains_itself group)

-- a wider group has what is under a group
under_wider : (rows : List RowOf) (k : ℕ) (group wider : List ℕ) → ((n : ℕ) → Contains group n → Contains wider n) → IsUnder rows k group → IsUnder rows k wider
under_wider rows k group wider more u = record {
  each = λ m h.
      let o = u.each m h in
      record { reached = o.reached; reach = way_starts (spreads_at rows) group wider more o.reached o.reach; stands = o.stands };
}

-- the fields of a class go together in the classes
pub class_settled : (es : List EntryOf) (rows : List Row) (spreads numbers classes : List (Vec ℕ Global)) → map (λ v. v.items) spreads ≡ map (λ r. r.spreads.items) rows → AreUnions spreads numbers classes →
    (class : ℕ) (group found : List ℕ) (ms : List MemberOf) (below : List (List ℕ)) → group ≡ row classes class → ((n : ℕ) → Reach group (row spreads) n → Contains found n) →
    ms ≡ flat_map (members_at (rows_view rows)) found → AreSettled es (rows_view rows) below ms → All (IsInOne numbers) below →
    IsSettled es (rows_view rows) (groups_view classes) (row classes class)
class_settled es rows spreads numbers classes same u class group found ms below is complete are settled inside = subst (IsSettled es (rows_view rows) (groups_view classes)) is
    (record {
      each = λ a b ca cb k.
          let g = settled.each a b (among_found es rows spreads same group found ms complete are a ca) (among_found es rows spreads same group found ms complete are b cb) k in
          let one = All-contains (IsInOne numbers) below g.group inside g.is_group in
          let into : (n : ℕ) → Contains g.group n → Contains (row classes one.class) n = λ n c. u.are.complete n one.class (one.each n c) in
          let there : one.class < length classes = subst (λ count. one.class < count) (sym u.are.count) one.within in
          record {
            same = g.same;
            group = row classes one.class;
            is_group = row_contained classes one.class there;
            left = under_wider (rows_view rows) a.below g.group (row classes one.class) into g.left;
            right = under_wider (rows_view rows) b.below g.group (row classes one.class) into g.right;
          };
    })

-- what is in a class of those is tested
module _ (es : List EntryOf) (rows : List Row) (spreads numbers classes : List (Vec ℕ Global)) (same : map (λ v. v.items) spreads ≡ map (λ r. r.spreads.items) rows) (u : AreUnions spreads numbers classes)
    (settled : (n : ℕ) → n < length classes → IsSettled es (rows_view rows) (groups_view classes) (row classes n)) where
  all_settled : All (IsSettled es (rows_view rows) (groups_view classes)) (groups_view classes)
  all_settled =
      All-weaker (Contains (groups_view classes)) (IsSettled es (rows_view rows) (groups_view classes))
      (λ g c.
      let v = from_map (λ (v : Vec ℕ Global). v.items) classes g c in
      let q = row_of classes v.0 v.1 in
      subst (IsSettled es (rows_view rows) (groups_view classes)) (q.2 ∙ sym v.2) (settled q.0 q.1))
      (groups_view classes) (All-contains_itself (groups_view classes))

  class_there : (class n : ℕ) → Contains (row classes class) n → class < length classes
  class_there class n c = row_below classes class n c

  module _ (all found : List ℕ) (is : found ≡ flat_map (row classes) all) where
    pub found_tested : All (IsTested es (rows_view rows)) found
    found_tested =
        All-weaker (Contains found) (IsTested es (rows_view rows))
        (λ n c.
        let q = from_flat (row classes) all n (subst (λ ns. Contains ns n) is c) in
        record {
          groups = groups_view classes;
          settled = all_settled;
          is_reached = record { group = row classes q.0; is_group = row_contained classes q.0 (class_there q.0 n q.2); reach = start q.2 };
        })
        found (All-contains_itself found)

    pub found_within : All (λ n. n < length rows) found
    found_within =
        All-weaker (Contains found) (λ n. n < length rows)
        (λ n c.
        let q = from_flat (row classes) all n (subst (λ ns. Contains ns n) is c) in
        subst (λ count. n < count) (u.count ∙ count_alike rows spreads same ∙ length-map rows row_view) (row_below numbers n q.0 (u.are.sound n q.0 q.2)))
        found (All-contains_itself found)
