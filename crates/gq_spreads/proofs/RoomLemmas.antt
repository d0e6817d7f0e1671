-- The rows hold no more numbers than there are spreads and fragments.
use Rattle.std.proofs.Common.{◌≡◌, ⊎_elim, ℕ, ◌+◌, ◌≤◌, Bool, true, false, List, [], ◌∷◌, length, get_or, map, refl, sym, ◌∙◌, ap, subst, arith, Contains, Option, Some, None, Vec, Global}
use Rattle.std.specs.Prelude.{slice_get, if◌then◌else◌, flat_map, ◌&&◌, not, bytes_eq}
use Rattle.std.specs.List.{enumerate_from}
use Rattle.std.specs.Option.{option_map_or}
use Rattle.std.proofs.lemmas.List.{length-append}
use Rattle.std.proofs.lemmas.List.Elements.{Contains-get_or}
use Rattle.std.proofs.lemmas.List.Folds.{flat_map-map}
use Rattle.std.proofs.lemmas.Grind.{flat_map-append}
use Rattle.std.proofs.lemmas.Option.{same_Some, slice_get_within}
use Rattle.gq_text.specs.declared.place.Span.{Span}
use Rattle.gq_tree.specs.Names.{spread_names}
use Rattle.gq_tree.specs.Plain.{NameOf}
use Rattle.gq_graph.specs.Reach.{NoneTwice}
use Rattle.gq_graph.proofs.Gathering.{Marks, marks_for}
use Rattle.gq_graph.proofs.Marking.{count_le}
use Rattle.gq_types.specs.Entries.{Text}
use Rattle.gq_types.proofs.Gathered.{nothing_in, cases_cons, from_flat, and_parts}
use Rattle.gq_document.specs.Definitions.{OperationOf, FragmentOf}
use Rattle.gq_document.specs.Executable.{ExecutableOf}
use Rattle.gq_spreads.specs.Spreads.{places_from, AreShort}
use Rattle.gq_spreads.specs.Helping.Links.{is_single, link, links_of, operation_links, fragment_links, group, group_at}
use Rattle.gq_spreads.specs.Helping.NameRows.{first_number, is_first_at}
use Rattle.gq_spreads.specs.Helping.Rows.{texts, row_items}
use Rattle.gq_spreads.specs.declared.spreads.Spreads.{Spreads}
use Rattle.gq_spreads.proofs.LinkLemmas.{count, from_group}
use Rattle.gq_spreads.proofs.NameRowLemmas.{is_first}
use Rattle.gq_spreads.proofs.OnceLemmas.{once_cons, once_append}
use Rattle.gq_spreads.proofs.PlaceLemmas.{from_place}
use Rattle.gq_spreads.proofs.SpreadLemmas.{AreRows}

-- at most one link for each spread
short_option : (h : ℕ → ℕ) (o : Option ℕ) → length (option_map_or (λ n. h n ∷ []) o []) ≤ 1
short_option h None = omega arith
short_option h (Some n) = omega arith

links_short : (ts : List Text) (names : List (NameOf Span)) → length (flat_map (links_of ts) names) ≤ length names
links_short ts [] = omega arith
links_short ts (name ∷ names) =
    omega (arith, length-append (links_of ts name) (flat_map (links_of ts) names), short_option (link ts name.text) (first_number ts name.text), links_short ts names)

-- lists that are each no longer than another
flat_short : {X Y : Type 0} (f : X → List ℕ) (g : X → List Y) → ((x : X) → length (f x) ≤ length (g x)) → (xs : List X) → length (flat_map f xs) ≤ length (flat_map g xs)
flat_short f g each [] = omega arith
flat_short f g each (x ∷ xs) = omega (arith, length-append (f x) (flat_map f xs), length-append (g x) (flat_map g xs), each x, flat_short f g each xs)

-- the numbers in rows
items_flat : {X : Type 0} (f : X → List ℕ) (rows : List (Vec ℕ Global)) (xs : List X) → row_items rows ≡ map f xs → flat_map (λ (v : Vec ℕ Global). v.items) rows ≡ flat_map f xs
items_flat f rows xs is = sym (flat_map-map (λ (l : List ℕ). l) (λ (v : Vec ℕ Global). v.items) rows) ∙ ap (λ ls. flat_map (λ (l : List ℕ). l) ls) is ∙ flat_map-map (λ (l : List ℕ). l) f xs

-- numbers behind a place
enumerated_past : {X : Type 0} (k : ℕ) (xs : List X) (p : ℕ × X) → Contains (enumerate_from k xs) p → k ≤ p.0
enumerated_past k [] p there = nothing_in p there
enumerated_past {X} k (x ∷ xs) p there = ⊎_elim
    (λ is. omega (arith, ap (λ (q : ℕ × X). q.0) is))
    (λ rest. let past = enumerated_past (k + 1) xs p rest in omega (arith, past))
    (cases_cons (k, x) p (enumerate_from (k + 1) xs) there)

module _ (fs : List FragmentOf) where
  abbrev ts : List Text
  ts = texts fs

  places_once : (k : ℕ) (text : Text) (gs : List FragmentOf) → NoneTwice (places_from k text (texts gs))
  places_once k text [] = λ i j less inside. absurd (omega (arith, inside))
  places_once k text (g ∷ gs) = by_test (places_once (k + 1) text gs) (bytes_eq text g.name.text)
    where
      by_test : NoneTwice (places_from (k + 1) text (texts gs)) → (b : Bool) → NoneTwice (if b then k ∷ places_from (k + 1) text (texts gs) else places_from (k + 1) text (texts gs))
      by_test rest true = once_cons k (places_from (k + 1) text (texts gs)) (λ there. let p = from_place (k + 1) text gs k there in absurd (omega (arith, p.2))) rest
      by_test rest false = rest

  group_once : (place : ℕ) (text : Text) → NoneTwice (group ts place text)
  group_once place text = by_test (is_first_at ts place text && not (is_single ts text))
    where
      by_test : (b : Bool) → NoneTwice (if b then places_from 0 text ts else [])
      by_test true = places_once 0 text fs
      by_test false = λ i j less inside. absurd (omega (arith, inside))

  -- the place of a group is the number of the name of each fragment in it
  grouped : (place : ℕ) (text : Text) (k : ℕ) → Contains (group ts place text) k → (f : FragmentOf) × (slice_get fs k ≡ Some f) × (first_number ts f.name.text ≡ Some place)
  grouped place text k there =
      let f = from_group fs place text k there in
      let test = so (is_first_at ts place text && not (is_single ts text)) there in
      (f.0, f.1, subst (λ u. first_number ts u ≡ Some place) f.2 (is_first (first_number ts text) place (and_parts (is_first_at ts place text) (not (is_single ts text)) test).0))
    where
      so : (b : Bool) → Contains (if b then places_from 0 text ts else []) k → b ≡ true
      so true there = refl
      so false there = nothing_in k there

  grouped_past : (place : ℕ) (us : List Text) (k : ℕ) → Contains (flat_map (group_at ts) (enumerate_from place us)) k →
      (f : FragmentOf) × (slice_get fs k ≡ Some f) × (at : ℕ) × (first_number ts f.name.text ≡ Some at) × (place ≤ at)
  grouped_past place us k there =
      let r = from_flat (group_at ts) (enumerate_from place us) k there in
      let f = grouped r.0.0 r.0.1 k r.2 in
      (f.0, f.1, r.0.0, f.2, enumerated_past place us r.0 r.1)

  groups_once : (place : ℕ) (us : List Text) → NoneTwice (flat_map (group_at ts) (enumerate_from place us))
  groups_once place [] = λ i j less inside. absurd (omega (arith, inside))
  groups_once place (u ∷ us) = once_append (group ts place u) (flat_map (group_at ts) (enumerate_from (place + 1) us)) (group_once place u) (groups_once (place + 1) us)
      (λ k here there.
      let f = grouped place u k here in
      let g = grouped_past (place + 1) us k there in
      let same : f.0 ≡ g.0 = same_Some f.0 g.0 (sym f.1 ∙ g.1) in
      let one : place ≡ g.2 = same_Some place g.2 (sym f.2 ∙ ap (λ (h : FragmentOf). first_number ts h.name.text) same ∙ g.3) in
      omega (arith, one, g.4))

  groups_short : length (flat_map (group_at ts) (enumerate_from 0 ts)) ≤ length fs
  groups_short =
      let all = flat_map (group_at ts) (enumerate_from 0 ts) in
      let marks : Marks (length fs) all = marks_for (length fs) all (groups_once 0 ts)
      (λ i d inside. let g = grouped_past 0 ts (get_or all i d) (Contains-get_or all i d inside) in slice_get_within fs (get_or all i d) g.0 g.1) in
      omega (arith, marks.marked.few, count_le marks.marks, marks.same)

module _ (x : ExecutableOf) (s : Spreads) (are : AreRows (texts x.fragments) x s) where
  abbrev us : List Text
  us = texts x.fragments

  operations_short : length (flat_map (λ v. v.items) s.of_operations.items) ≤ length (flat_map (λ o. spread_names o.set) x.operations)
  operations_short =
      subst (λ (l : List ℕ). length l ≤ length (flat_map (λ (o : OperationOf). spread_names o.set) x.operations)) (sym (items_flat (operation_links us) s.of_operations.items x.operations are.0))
      (flat_short (operation_links us) (λ (o : OperationOf). spread_names o.set) (λ o. links_short us (spread_names o.set)) x.operations)

  fragments_short : length (flat_map (λ v. v.items) s.of_fragments.items) ≤ length (flat_map (λ f. spread_names f.set) x.fragments) + length x.fragments
  fragments_short =
      let links_are = flat_map-map (λ (l : List ℕ). l) (fragment_links us) x.fragments in
      let groups_are = flat_map-map (λ (l : List ℕ). l) (group_at us) (enumerate_from 0 us) in
      let rows_are = sym (flat_map-map (λ (l : List ℕ). l) (λ (v : Vec ℕ Global). v.items) s.of_fragments.items) ∙ ap (λ ls. flat_map (λ (l : List ℕ). l) ls) are.1
      ∙ flat_map-append (λ (l : List ℕ). l) (map (fragment_links us) x.fragments) (map (group_at us) (enumerate_from 0 us)) in
      let whole = ap (λ (l : List ℕ). length l) rows_are
      ∙ length-append (flat_map (λ (l : List ℕ). l) (map (fragment_links us) x.fragments)) (flat_map (λ (l : List ℕ). l) (map (group_at us) (enumerate_from 0 us))) in
      omega (
        arith,
        whole,
        ap (λ (l : List ℕ). length l) links_are,
        ap (λ (l : List ℕ). length l) groups_are,
        flat_short (fragment_links us) (λ (f : FragmentOf). spread_names f.set) (λ f. links_short us (spread_names f.set)) x.fragments,
        groups_short x.fragments,
      )

  are_short_of : AreShort x s
  are_short_of = record {
    rows = omega (arith, count x.fragments s.of_fragments.items are.1);
    of_operations = operations_short;
    of_fragments = fragments_short;
  }

pub are_short : (x : ExecutableOf) (s : Spreads) (names : List Text) → names ≡ texts x.fragments → AreRows names x s → AreShort x s
are_short x s names is are = are_short_of x s (subst (λ l. AreRows l x s) is are)
