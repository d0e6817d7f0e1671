-- Lists of fields of one key, and what is found in them all.
use Rattle.std.proofs.Common.{◌≡◌, ◌↔◌, ◌⊎◌, ⊎_elim, inl, inr, ℕ, ◌+◌, ◌<◌, true, List, [], ◌∷◌, ◌++◌, Option, Some, Contains, length, take, get_or, map, refl, sym, ◌∙◌, ap, subst, Vec, Global}
use Rattle.std.specs.List.{slice_get}
use Rattle.std.specs.Option.{option_map, option_map_or}
use Rattle.std.proofs.lemmas.List.{take_more, map-append}
use Rattle.std.proofs.lemmas.List.Elements.{Contains-push, Contains-push_cases, Contains-append_left}
use Rattle.std.proofs.lemmas.Option.{slice_get_within, slice_get-map}
use Rattle.gq_names.proofs.RepeatLemmas.{contains_none}
use Rattle.gq_fault.specs.declared.fault.Fault.{Fault}
use Rattle.gq_types.specs.Entries.{Text, EntryOf}
use Rattle.gq_document.specs.FieldSets.{key}
use Rattle.gq_merging.specs.FieldsMerge.{leads_on, can_coincide}
use Rattle.gq_merging.specs.Helping.SetTables.{MemberOf}
use Rattle.gq_merging.specs.Helping.PairTables.{MetOf, LookOf, AreMet}
use Rattle.gq_merging.specs.Helping.NameTables.{ByNameOf, list_at, AreByKey}
use Rattle.gq_merging.specs.Helping.ParentTables.{AreByParent}
use Rattle.gq_merging.specs.Helping.SearchTables.{AreOfOneKey, IsClique, AreMetInOne, Searched}
use Rattle.gq_merging.specs.Helping.SearchViews.{list_with, AreCliquesWith, AreMetWith}
use Rattle.gq_merging.specs.Helping.Views.{member_view, members_view}
use Rattle.gq_merging.specs.declared.purpose.Purpose.TheVariants.{Names}
use Rattle.gq_merging.specs.declared.rows.Member.{Member}
use Rattle.gq_merging.proofs.ClassLemmas.{members_more}
use Rattle.gq_merging.proofs.GrowLemmas.{searched_as, searched_both, searched_led, searched_nowhere}
use Rattle.gq_merging.proofs.MemberLemmas.{contains_get, get_below, get_contains}
use Rattle.gq_merging.proofs.NameLemmas.{listed_at, listed_somewhere}
use Rattle.gq_merging.proofs.ParentLemmas.{others_coincide, list_coincides, coincide_somewhere, others_of_these, list_of_these}
use Rattle.gq_types.proofs.Gathered.{from_map_as as from_map, to_map}

-- one list more
in_lists_more : (ls : List (List MemberOf)) (l : List MemberOf) (p : MetOf) → (AreMetInOne ls p ⊎ AreMet l l p) ↔ AreMetInOne (ls ++ l ∷ []) p
in_lists_more ls l p = (
  (λ s. ⊎_elim
      (λ h. record { list = h.list; is_list = Contains-append_left ls (l ∷ []) h.list h.is_list; met = h.met })
      (λ m. record { list = l; is_list = Contains-push ls l; met = m }) s),
  (λ h. ⊎_elim
      (λ c. inl (record { list = h.list; is_list = c; met = h.met }))
      (λ e. inr (subst (λ k. AreMet k k p) (sym e) h.met)) (Contains-push_cases ls l h.list h.is_list)),
)

module _ {A : Type 0} (w : LookOf) (f : A → List MemberOf) where
  pub lists_more : (xs : List A) (i : ℕ) (d : A) (faults middle faults' : List Fault) (old between new : List (List ℕ)) → i < length xs → get_or xs i d ≡ d →
      Searched w (AreMetInOne (map f (take i xs))) faults middle old between → Searched w (AreMet (f d) (f d)) middle faults' between new →
      Searched w (AreMetInOne (map f (take (i + 1) xs))) faults faults' old new
  lists_more xs i d faults middle faults' old between new l e a b =
      let front = map f (take i xs) in
      let more : map f (take (i + 1) xs) ≡ front ++ f d ∷ [] = ap (map f) (take_more xs i d l) ∙ map-append f (take i xs) (get_or xs i d ∷ []) ∙ ap (λ y. front ++ f y ∷ []) e in
      subst (λ ls. Searched w (AreMetInOne ls) faults faults' old new) (sym more)
      (searched_as w (λ p. AreMetInOne front p ⊎ AreMet (f d) (f d) p) (AreMetInOne (front ++ f d ∷ [])) faults faults' old new (in_lists_more front (f d))
      (searched_both w (AreMetInOne front) (AreMet (f d) (f d)) faults middle faults' old between new a b))

  pub no_lists : (faults : List Fault) (old : List (List ℕ)) → Searched w (AreMetInOne []) faults faults old old
  no_lists faults old = searched_nowhere w (AreMetInOne []) faults old (λ p h. contains_none h.list h.is_list)

-- the list at a place
at_place : (ls : List (List MemberOf)) (i : ℕ) (l : List MemberOf) → slice_get ls i ≡ Some l → list_at ls i ≡ l
at_place ls i l e = ap (λ o. option_map_or (λ ms. ms) o []) e

list_there : (ls : List (List MemberOf)) (i : ℕ) → i < length ls → Contains ls (list_at ls i)
list_there ls i l = let g = get_below ls i l in subst (Contains ls) (sym (at_place ls i g.0 g.1)) (get_contains ls i g.0 g.1)

module _ (t : ByNameOf) (ms : List MemberOf) (by_key : AreByKey t ms) where
  abbrev key_of : MemberOf → List ℕ
  key_of m = key m.field_at

  pub lists_of_one_key : (list : List MemberOf) → Contains t.lists list → AreOfOneKey list
  lists_of_one_key list c =
      let q = contains_get t.lists list c in
      let l = slice_get_within t.lists q.0 list q.1 in
      let there = λ (m : MemberOf) (h : Contains list m). (listed_at key_of t ms by_key q.0 l m (subst (λ k. Contains k m) (sym (at_place t.lists q.0 list q.1)) h)).1 in
      record { each = λ a b ca cb. there a ca ∙ sym (there b cb) }

  -- a field in a list is one of the fields, and with each field stand those of its key in one list
  pub list_of_member : ((list : List MemberOf) → Contains t.lists list → (m : MemberOf) → Contains list m → Contains ms m) ×
      ((m : MemberOf) → Contains ms m → (list : List MemberOf) × Contains t.lists list × ((v : MemberOf) → Contains ms v → key v.field_at ≡ key m.field_at → Contains list v))
  list_of_member = (
    (λ list c m h.
        let q = contains_get t.lists list c in
        let l = slice_get_within t.lists q.0 list q.1 in
        (listed_at key_of t ms by_key q.0 l m (subst (λ k. Contains k m) (sym (at_place t.lists q.0 list q.1)) h)).0),
    (λ m c. let s = listed_somewhere key_of t ms by_key m c in (list_at t.lists s.0, list_there t.lists s.0 s.1, s.2)),
  )

  pub lists_tell : (p : MetOf) → AreMetInOne t.lists p ↔ AreMet ms ms p
  lists_tell p = (
    (λ h.
        let q = contains_get t.lists h.list h.is_list in
        let l = slice_get_within t.lists q.0 h.list q.1 in
        let there = λ (m : MemberOf) (c : Contains h.list m). (listed_at key_of t ms by_key q.0 l m (subst (λ k. Contains k m) (sym (at_place t.lists q.0 h.list q.1)) c)).0 in
        record { stands_left = there p.left h.met.stands_left; stands_right = there p.right h.met.stands_right; one_key = h.met.one_key }),
    (λ m.
        let s = listed_somewhere key_of t ms by_key p.left m.stands_left in
        record {
          list = list_at t.lists s.0;
          is_list = list_there t.lists s.0 s.1;
          met = record { stands_left = s.2 p.left m.stands_left refl; stands_right = s.2 p.right m.stands_right (sym m.one_key); one_key = m.one_key };
        }),
  )

-- the code's lists
abbrev pub seen : Vec Member Global → List MemberOf
seen v = members_view v.items

lists_with : (vs : List (Vec Member Global)) (others : List Member) → map (λ l. l ++ members_view others) (map seen vs) ≡ map (list_with others) vs
lists_with [] others = refl
lists_with (v ∷ vs) others = ap (λ ls. (members_view v.items ++ members_view others) ∷ ls) (lists_with vs others)

seen_at : (vs : List (Vec Member Global)) (i : ℕ) (v : Vec Member Global) → slice_get vs i ≡ Some v → slice_get (map seen vs) i ≡ Some (members_view v.items)
seen_at vs i v e = slice_get-map seen vs i ∙ ap (option_map seen) e

-- fields of one key by the types of their parents
module _ (w : LookOf) (names : w.purpose ≡ Names) (t : ByNameOf) (others ms : List MemberOf) (by_parent : AreByParent w.entries t others ms) (one_key : AreOfOneKey ms) where
  coinciding_lead : (a b : MemberOf) → can_coincide w.entries a.field_at.parent b.field_at.parent ≡ true → leads_on w.entries w.purpose a.field_at b.field_at ≡ true
  coinciding_lead a b e = ap (λ p. leads_on w.entries p a.field_at b.field_at) names ∙ e

  pub others_clique : IsClique w others
  others_clique = record {
    one_key = record { each = λ a b ca cb. one_key.each a b (others_of_these w.entries t others ms by_parent a ca) (others_of_these w.entries t others ms by_parent b cb) };
    lead = λ a b ca cb. coinciding_lead a b (others_coincide w.entries t others ms by_parent a b ca cb);
  }

  list_clique : (i : ℕ) → i < length t.lists → IsClique w (list_at t.lists i ++ others)
  list_clique i l = record {
    one_key = record { each = λ a b ca cb. one_key.each a b (list_of_these w.entries t others ms by_parent i l a ca) (list_of_these w.entries t others ms by_parent i l b cb) };
    lead = λ a b ca cb. coinciding_lead a b (list_coincides w.entries t others ms by_parent i l a b ca cb);
  }

  in_list : (p : MetOf) → AreMetInOne (map (λ l. l ++ others) t.lists) p → AreMet ms ms p
  in_list p h =
      let f = from_map (λ (l : List MemberOf). l ++ others) t.lists h.list h.is_list in
      let q = contains_get t.lists f.0 f.1 in
      let l = slice_get_within t.lists q.0 f.0 q.1 in
      let there = λ (m : MemberOf) (c : Contains h.list m). list_of_these w.entries t others ms by_parent q.0 l m (subst (λ k. Contains (k ++ others) m) (sym (at_place t.lists q.0 f.0 q.1)) (subst (λ k. Contains k m) f.2 c)) in
      record { stands_left = there p.left h.met.stands_left; stands_right = there p.right h.met.stands_right; one_key = h.met.one_key }

  -- any two that lead on are among the others, or in one of the lists with the others
  parents_tell : (faults faults' : List Fault) (old new : List (List ℕ)) → Searched w (λ p. AreMet others others p ⊎ AreMetInOne (map (λ l. l ++ others) t.lists) p) faults faults' old new →
      Searched w (AreMet ms ms) faults faults' old new
  parents_tell faults faults' old new a =
      searched_led w (λ p. AreMet others others p ⊎ AreMetInOne (map (λ l. l ++ others) t.lists) p) (AreMet ms ms) faults faults' old new
      (λ p s. ⊎_elim
      (λ m. record { stands_left = others_of_these w.entries t others ms by_parent p.left m.stands_left; stands_right = others_of_these w.entries t others ms by_parent p.right m.stands_right; one_key = m.one_key })
      (in_list p) s)
      (λ p m leads. ⊎_elim
      (λ c. inl (record { stands_left = c.0; stands_right = c.1; one_key = m.one_key }))
      (λ c. inr (record { list = list_at t.lists c.0 ++ others; is_list = to_map (λ l. l ++ others) t.lists (list_at t.lists c.0) (list_there t.lists c.0 c.1); met = record { stands_left = c.2; stands_right = c.3; one_key = m.one_key } }))
      (coincide_somewhere w.entries t others ms by_parent p.left p.right m.stands_left m.stands_right (ap (λ q. leads_on w.entries q p.left.field_at p.right.field_at) (sym names) ∙ leads)))
      a

-- the same of the code's lists
module _ (w : LookOf) (names : w.purpose ≡ Names) (vs : List (Vec Member Global)) (others : List Member) (t : ByNameOf) (are : t.lists ≡ map seen vs) (ms : List MemberOf)
    (by_parent : AreByParent w.entries t (members_view others) ms) (one_key : AreOfOneKey ms) where
  pub cliques_with : AreCliquesWith w vs others
  cliques_with v c =
      let q = contains_get vs v c in
      let at : slice_get t.lists q.0 ≡ Some (members_view v.items) = ap (λ ls. slice_get ls q.0) are ∙ seen_at vs q.0 v q.1 in
      subst (λ l. IsClique w (l ++ members_view others)) (at_place t.lists q.0 (members_view v.items) at)
      (list_clique w names t (members_view others) ms by_parent one_key q.0 (slice_get_within t.lists q.0 (members_view v.items) at))

  pub met_with : (faults faults' : List Fault) (old new : List (List ℕ)) → Searched w (AreMetWith vs others) faults faults' old new → Searched w (AreMet ms ms) faults faults' old new
  met_with faults faults' old new a =
      parents_tell w names t (members_view others) ms by_parent one_key faults faults' old new
      (subst (λ ls. Searched w (λ p. AreMet (members_view others) (members_view others) p ⊎ AreMetInOne ls p) faults faults' old new)
      (sym (ap (map (λ l. l ++ members_view others)) are ∙ lists_with vs others)) a)

-- lists of the code by the keys of their fields
module _ (vs : List (Vec Member Global)) (t : ByNameOf) (are : t.lists ≡ map seen vs) (ms : List MemberOf) (by_key : AreByKey t ms) where
  pub seen_of_one_key : (v : Vec Member Global) → Contains vs v → AreOfOneKey (members_view v.items)
  seen_of_one_key v c = lists_of_one_key t ms by_key (members_view v.items) (subst (λ ls. Contains ls (members_view v.items)) (sym are) (to_map seen vs v c))

  pub seen_tell : (p : MetOf) → AreMetInOne (map seen vs) p ↔ AreMet ms ms p
  seen_tell p = subst (λ ls. AreMetInOne ls p ↔ AreMet ms ms p) are (lists_tell t ms by_key p)

-- parents of one type
pub one_parent : (es : List EntryOf) (ms : List MemberOf) (parent : Option Text) → can_coincide es parent parent ≡ true → ((m : MemberOf) → Contains ms m → m.field_at.parent ≡ parent) →
    (a b : MemberOf) → Contains ms a → Contains ms b → can_coincide es a.field_at.parent b.field_at.parent ≡ true
one_parent es ms parent e all a b ca cb = ap (λ o. can_coincide es o b.field_at.parent) (all a ca) ∙ ap (can_coincide es parent) (all b cb) ∙ e

pub one_parent_more : (xs : List Member) (i : ℕ) (d : Member) (parent : Option Text) → i < length xs → get_or xs i d ≡ d → parent ≡ (member_view d).field_at.parent →
    ((m : MemberOf) → Contains (members_view (take i xs)) m → m.field_at.parent ≡ parent) → (m : MemberOf) → Contains (members_view (take (i + 1) xs)) m → m.field_at.parent ≡ parent
one_parent_more xs i d parent l e is all m c = ⊎_elim (all m) (λ q. ap (λ (n : MemberOf). n.field_at.parent) (sym q) ∙ sym is)
    (Contains-push_cases (members_view (take i xs)) (member_view d) m (subst (λ ms. Contains ms m) (members_more xs i d l e) c))
