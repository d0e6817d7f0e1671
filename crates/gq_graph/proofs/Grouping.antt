-- Components, given number by number against the order in which the numbers were finished.
use Rattle.std.proofs.Common.{ℕ, ◌-◌, ◌<◌, ◌≡◌, List, [], ◌∷◌, ◌++◌, Bool, length, take, drop, sym, ◌∙◌, ap, subst, arith, inl, inr, ◌⊎◌, get_or}
use Rattle.std.specs.Prelude.{Contains, All, ◌↔◌}
use Rattle.std.specs.declared.vec.Vec.{Vec}
use Rattle.std.specs.declared.alloc.Global.{Global}
use Rattle.std.proofs.lemmas.List.{length_push, drop_at, take_rest, get_or_append_left}
use Rattle.std.proofs.lemmas.List.Elements.{Contains-append_left, Contains-append_cases, Contains-push, Contains-push_cases, All-contains}
use Rattle.gq_graph.specs.Reach.{Reach, LeadToEachOther, row, InRange}
use Rattle.gq_graph.specs.Helping.Found.{Marked}
use Rattle.gq_graph.specs.Helping.Finished.{Finished}
use Rattle.gq_graph.specs.Transposed.{Transposed}
use Rattle.gq_graph.specs.Components.{Led}
use Rattle.gq_graph.specs.Helping.Mutual.{Assigned, Gathered}
use Rattle.gq_graph.proofs.Ways.{contains_nothing, way_on, way_into}
use Rattle.gq_graph.proofs.Collecting.{Part, Turn, turn, turn_back}

-- what was added is of the component: the list l from a place on
pub gathered : (prev : ℕ → List ℕ) (number from : ℕ) (old new l components components' : List ℕ) → Part prev number old new → from ≡ length old → l ≡ new →
    Assigned (take (length l - from) (drop from l)) number components components' → Gathered prev number old new components components'
gathered prev number from old new l components components' p e q assigned =
    let slice : take (length l - from) (drop from l) ≡ p.added =
    take_rest l from ∙ ap (λ k. drop from k) (q ∙ p.is) ∙ drop_at old p.added from (sym e) in
    let a : Assigned p.added number components components' = subst (λ k. Assigned k number components components') slice assigned in
    record {
      added = p.added;
      is = p.is;
      here = p.here;
      taken = p.taken;
      led = p.led;
      put = a.put;
      only = a.only;
    }

-- the numbers of this list are to come, and those that were found have their components
pub record Groups (rows back : List (Vec ℕ Global)) (order : List ℕ) (found_marks : List Bool) (found components : List ℕ) : Type 0 where
  pub order_is : Finished (row rows) order
  pub range : All (λ n. n < length rows) order
  pub all : (n : ℕ) → n < length rows → Contains order n ⊎ Contains found n
  pub marked : Marked found_marks found
  pub found_count : length found_marks ≡ length rows
  pub components_count : length components ≡ length rows
  pub led : Led (row back) found found
  pub one : (n : ℕ) → Contains found n → LeadToEachOther (row rows) (get_or components n 0) n
  pub same : (m n : ℕ) → Contains found m → Contains found n → LeadToEachOther (row rows) m n → get_or components m 0 ≡ get_or components n 0

module _ (next : ℕ → List ℕ) (count : ℕ) (l : List ℕ) (v : ℕ) (found found' components components' added : List ℕ)
    (u : Turn next count l v found found' added) (put : All (λ n. get_or components' n 0 ≡ v) added)
    (only : (n : ℕ) → (get_or components' n 0 ≡ get_or components n 0) ⊎ Contains added n) where
  -- what was found before keeps its component
  kept : (n : ℕ) → Contains found n → get_or components' n 0 ≡ get_or components n 0
  kept n old = elim (only n) [ inl q ↦ q | inr new ↦ absurd (u.apart n old new) ]

  given : (n : ℕ) → Contains added n → get_or components' n 0 ≡ v
  given n new = All-contains (λ j. get_or components' j 0 ≡ v) added n put new

  -- what is found in v's turn does not lead to what was found before
  turned_off : (m n : ℕ) → Contains found m → Contains added n → Reach (n ∷ []) next m → ⊥
  turned_off m n old new way = u.apart n (way_into next found u.closed n m way old) new

  pub one_next : ((n : ℕ) → Contains found n → LeadToEachOther next (get_or components n 0) n) → (n : ℕ) → Contains found' n → LeadToEachOther next (get_or components' n 0) n
  one_next one n h = elim (Contains-append_cases found added n (subst (λ j. Contains j n) u.is h)) [
    | inl old ↦ subst (λ c. LeadToEachOther next c n) (sym (kept n old)) (one n old)
    | inr new ↦ subst (λ c. LeadToEachOther next c n) (sym (given n new)) (turn_back next count l v found found' added u n new, u.leads n new)
  ]

  pub same_next : ((m n : ℕ) → Contains found m → Contains found n → LeadToEachOther next m n → get_or components m 0 ≡ get_or components n 0) →
      (m n : ℕ) → Contains found' m → Contains found' n → LeadToEachOther next m n → get_or components' m 0 ≡ get_or components' n 0
  same_next same m n here there ways =
      elim (Contains-append_cases found added m (subst (λ j. Contains j m) u.is here)) [
        | inl old ↦ elim (Contains-append_cases found added n (subst (λ j. Contains j n) u.is there)) [
          | inl old' ↦ kept m old ∙ same m n old old' ways ∙ sym (kept n old')
          | inr new' ↦ absurd (turned_off m n old new' ways.1)
        ]
        | inr new ↦ elim (Contains-append_cases found added n (subst (λ j. Contains j n) u.is there)) [
          | inl old' ↦ absurd (turned_off n m old' new ways.0)
          | inr new' ↦ given m new ∙ sym (given n new')
        ]
      ]

pub groups_next : (rows back : List (Vec ℕ Global)) (l : List ℕ) (v : ℕ) (found_marks found_marks' : List Bool) (found found' components components' : List ℕ) →
    InRange rows → Transposed rows back → Groups rows back (l ++ v ∷ []) found_marks found components → Gathered (row back) v found found' components components' →
    Marked found_marks' found' → length found_marks' ≡ length rows → length components' ≡ length components → Groups rows back l found_marks' found' components'
groups_next rows back l v found_marks found_marks' found found' components components' range t k g m e same =
    let u : Turn (row rows) (length rows) l v found found' g.added =
    turn rows back l v found_marks' found found' g.added range t k.order_is k.all k.led g.led g.is g.here g.taken m e in
    record {
      order_is = u.before;
      range = λ i d lt. subst (λ j. j < length rows) (get_or_append_left l (v ∷ []) d i lt) (k.range i d (omega (arith, lt, length_push l v)));
      all = λ n lt. elim (k.all n lt) [
        | inr old ↦ inr (subst (λ j. Contains j n) (sym g.is) (Contains-append_left found g.added n old))
        | inl q ↦ elim (Contains-push_cases l v n q) [
          | inl later ↦ inl later
          | inr is_v ↦ inr (subst (λ j. Contains found' j) is_v g.here)
        ]
      ];
      marked = m;
      found_count = e;
      components_count = same ∙ k.components_count;
      led = g.led;
      one = one_next (row rows) (length rows) l v found found' components components' g.added u g.put g.only k.one;
      same = same_next (row rows) (length rows) l v found found' components components' g.added u g.put g.only k.same;
    }

pub groups_end : (rows back : List (Vec ℕ Global)) (found_marks : List Bool) (found components : List ℕ) →
    Groups rows back [] found_marks found components → (m n : ℕ) → m < length rows → n < length rows → (get_or components m 0 ≡ get_or components n 0) ↔ LeadToEachOther (row rows) m n
groups_end rows back found_marks found components k m n lt lt' = (to, k.same m n (is_found m lt) (is_found n lt'))
  where
    is_found : (j : ℕ) → j < length rows → Contains found j
    is_found j below = elim (k.all j below) [ inl none ↦ absurd (contains_nothing j none) | inr h ↦ h ]

    to : get_or components m 0 ≡ get_or components n 0 → LeadToEachOther (row rows) m n
    to q =
        let c : ℕ = get_or components m 0 in
        let at_m : LeadToEachOther (row rows) c m = k.one m (is_found m lt) in
        let at_n : LeadToEachOther (row rows) c n = subst (λ j. LeadToEachOther (row rows) j n) (sym q) (k.one n (is_found n lt')) in
        (way_on (m ∷ []) (row rows) c n at_m.1 at_n.0, way_on (n ∷ []) (row rows) c m at_n.1 at_m.0)

-- the number whose turn it is
pub group_range : (rows back : List (Vec ℕ Global)) (l : List ℕ) (v : ℕ) (found_marks : List Bool) (found components : List ℕ) →
    Groups rows back (l ++ v ∷ []) found_marks found components → v < length rows
group_range rows back l v found_marks found components k = All-contains (λ j. j < length rows) (l ++ v ∷ []) v k.range (Contains-push l v)
