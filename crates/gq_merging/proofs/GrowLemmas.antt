-- Groups that are put behind others, and what stands in them.
use Rattle.std.proofs.Common.{◌≡◌, ◌↔◌, ◌⊎◌, ⊎_elim, inl, inr, ℕ, ◌<◌, true, List, [], ◌∷◌, ◌++◌, append_assoc, append-nil, All, Contains, length, sym, ◌∙◌, ap, subst}
use Rattle.std.proofs.lemmas.List.Elements.{All-nil, All-cons, All-append, Contains-append_left, Contains-append_right, Contains-append_cases, Contains-push, Contains-push_cases}
use Rattle.gq_names.proofs.RepeatLemmas.{contains_none, contains_cases}
use Rattle.gq_graph.specs.Reach.{Reach, start, step}
use Rattle.gq_graph.proofs.Ways.{way_on, way_starts, FirstStep, first_step}
use Rattle.gq_fault.specs.declared.fault.Fault.{Fault}
use Rattle.gq_fault.specs.Adds.{AddsExactly}
use Rattle.gq_merging.specs.FieldsMerge.{leads_on}
use Rattle.gq_merging.specs.Helping.SetTables.{MemberOf, RowOf, spreads_at, IsMember}
use Rattle.gq_merging.specs.Helping.GroupTables.{IsOfGroup}
use Rattle.gq_merging.specs.Helping.PairTables.{MetOf, LookOf, AreMet, IsGiven, IsFaultOf}
use Rattle.gq_merging.specs.Helping.SearchTables.{AreInGroup, AreInOne, IsBelowOne, AreBelowThese, AreUnder, IsClique, Grows, Searched}
use Rattle.gq_merging.proofs.DifferLemmas.{differ_leads}

-- a set's fields are those of the group of that set
pub of_one : (rows : List RowOf) (n : ℕ) (m : MemberOf) → IsOfGroup rows (n ∷ []) m ↔ IsMember rows n m
of_one rows n m = (
  (λ h. record { reached = h.reached; reach = h.reach; stands = h.stands }),
  (λ h. record { reached = h.reached; reach = h.reach; stands = h.stands }),
)

-- nothing is of a group of no sets
of_none : (next : ℕ → List ℕ) (n : ℕ) → Reach [] next n → ⊥
of_none next n (start c) = contains_none n c
of_none next n (step {m = m} h c) = of_none next m h

pub nothing_of_none : (rows : List RowOf) (group : List ℕ) → group ≡ [] → (m : MemberOf) → IsOfGroup rows group m → ⊥
nothing_of_none rows group e m h = of_none (spreads_at rows) h.reached (subst (λ g. Reach g (spreads_at rows) h.reached) e h.reach)

-- one set more
pub group_more : (rows : List RowOf) (group : List ℕ) (n : ℕ) (m : MemberOf) → IsOfGroup rows (group ++ n ∷ []) m ↔ (IsOfGroup rows group m ⊎ IsMember rows n m)
group_more rows group n m = (
  (λ h. let f : FirstStep (spreads_at rows) (group ++ n ∷ []) h.reached = first_step (spreads_at rows) (group ++ n ∷ []) h.reached h.reach in
      ⊎_elim
      (λ c. inl (record { reached = h.reached; reach = way_on group (spreads_at rows) f.by h.reached (start c) f.rest; stands = h.stands }))
      (λ e. inr (record { reached = h.reached; reach = subst (λ k. Reach (k ∷ []) (spreads_at rows) h.reached) (sym e) f.rest; stands = h.stands }))
      (Contains-push_cases group n f.by f.on)),
  (λ s. ⊎_elim
      (λ h. record { reached = h.reached; reach = way_starts (spreads_at rows) group (group ++ n ∷ []) (λ k c. Contains-append_left group (n ∷ []) k c) h.reached h.reach; stands = h.stands })
      (λ h. record { reached = h.reached; reach = way_on (group ++ n ∷ []) (spreads_at rows) n h.reached (start (Contains-push group n)) h.reach; stands = h.stands }) s),
)

-- one field more above
below_more : (rows : List RowOf) (ms : List MemberOf) (a m : MemberOf) → IsBelowOne rows (ms ++ a ∷ []) m ↔ (IsBelowOne rows ms m ⊎ IsMember rows a.below m)
below_more rows ms a m = (
  (λ h. ⊎_elim
      (λ c. inl (record { above = h.above; stands = c; below = h.below }))
      (λ e. inr (subst (λ (b : MemberOf). IsMember rows b.below m) (sym e) h.below)) (Contains-push_cases ms a h.above h.stands)),
  (λ s. ⊎_elim
      (λ h. record { above = h.above; stands = Contains-append_left ms (a ∷ []) h.above h.stands; below = h.below })
      (λ h. record { above = a; stands = Contains-push ms a; below = h }) s),
)

module _ (rows : List RowOf) (group : List ℕ) (ms : List MemberOf) (a : MemberOf) (are : (m : MemberOf) → IsOfGroup rows group m ↔ IsBelowOne rows ms m) where
  pub below_put : (new : List ℕ) → new ≡ group ++ a.below ∷ [] → (m : MemberOf) → IsOfGroup rows new m ↔ IsBelowOne rows (ms ++ a ∷ []) m
  below_put new e m =
      let g = group_more rows group a.below m in
      let b = below_more rows ms a m in
      subst (λ ns. IsOfGroup rows ns m ↔ IsBelowOne rows (ms ++ a ∷ []) m) (sym e) (
        (λ h. b.1 (⊎_elim (λ l. inl ((are m).0 l)) (λ r. inr r) (g.0 h))),
        (λ h. g.1 (⊎_elim (λ l. inl ((are m).1 l)) (λ r. inr r) (b.0 h))),
      )

  pub below_passed : ((m : MemberOf) → IsMember rows a.below m → ⊥) → (m : MemberOf) → IsOfGroup rows group m ↔ IsBelowOne rows (ms ++ a ∷ []) m
  below_passed nothing m =
      let b = below_more rows ms a m in (
        (λ h. b.1 (inl ((are m).0 h))),
        (λ h. (are m).1 (⊎_elim (λ l. l) (λ r. absurd (nothing m r)) (b.0 h))),
      )

pub below_none : (rows : List RowOf) (group : List ℕ) → group ≡ [] → (m : MemberOf) → IsOfGroup rows group m ↔ IsBelowOne rows [] m
below_none rows group e m = ((λ h. absurd (nothing_of_none rows group e m h)), (λ h. absurd (contains_none h.above h.stands)))

-- no group more
pub grows_not : (rows : List RowOf) (Is : MetOf → Type 0) (old : List (List ℕ)) → ((q : MetOf) → Is q → ⊥) → Grows rows Is old old
grows_not rows Is old none = record {
  added = [];
  is = sym (append-nil old);
  taken = λ q h. absurd (contains_none h.group h.is_group);
  holds = λ q i. absurd (none q i);
}

-- one group more
pub grows_one : (rows : List RowOf) (Is : MetOf → Type 0) (old new : List (List ℕ)) (group : List ℕ) → new ≡ old ++ group ∷ [] →
    ((q : MetOf) → AreInGroup rows group q ↔ Is q) → Grows rows Is old new
grows_one rows Is old new group e are = record {
  added = group ∷ [];
  is = e;
  taken = λ q h. ⊎_elim (λ s. (are q).0 (subst (λ g. AreInGroup rows g q) (sym s) h.inside)) (λ c. absurd (contains_none h.group c)) (contains_cases group [] h.group h.is_group);
  holds = λ q i. record { group = group; is_group = subst (λ gs. Contains gs group) (sym e) (Contains-push old group); inside = (are q).1 i };
}

pub grows_as : (rows : List RowOf) (A B : MetOf → Type 0) (old new : List (List ℕ)) → ((q : MetOf) → A q ↔ B q) → Grows rows A old new → Grows rows B old new
grows_as rows A B old new h g = record {
  added = g.added;
  is = g.is;
  taken = λ q i. (h q).0 (g.taken q i);
  holds = λ q b. g.holds q ((h q).1 b);
}

-- what stood together still does
pub still_in_one : (rows : List RowOf) (old new added : List (List ℕ)) → new ≡ old ++ added → (q : MetOf) → AreInOne rows old q → AreInOne rows new q
still_in_one rows old new added e q h = record { group = h.group; is_group = subst (λ gs. Contains gs h.group) (sym e) (Contains-append_left old added h.group h.is_group); inside = h.inside }

-- of more groups it is one or the other
pub in_either : (rows : List RowOf) (ones others : List (List ℕ)) (q : MetOf) → AreInOne rows (ones ++ others) q → AreInOne rows ones q ⊎ AreInOne rows others q
in_either rows ones others q h = ⊎_elim
    (λ c. inl (record { group = h.group; is_group = c; inside = h.inside }))
    (λ c. inr (record { group = h.group; is_group = c; inside = h.inside })) (Contains-append_cases ones others h.group h.is_group)

pub grows_both : (rows : List RowOf) (A B : MetOf → Type 0) (old middle new : List (List ℕ)) → Grows rows A old middle → Grows rows B middle new → Grows rows (λ q. A q ⊎ B q) old new
grows_both rows A B old middle new a b = record {
  added = a.added ++ b.added;
  is = b.is ∙ ap (λ gs. gs ++ b.added) a.is ∙ append_assoc old a.added b.added;
  taken = λ q h. ⊎_elim (λ l. inl (a.taken q l)) (λ r. inr (b.taken q r)) (in_either rows a.added b.added q h);
  holds = λ q s. ⊎_elim (λ l. still_in_one rows middle new b.added b.is q (a.holds q l)) (λ r. b.holds q r) s;
}

-- faults that are put behind others
told_by : (Is : Fault → Type 0) (faults faults' : List Fault) → AddsExactly Is faults faults' → (fault : Fault) → Contains faults' fault ↔ (Contains faults fault ⊎ Is fault)
told_by Is faults faults' p fault = (
  (λ c. ⊎_elim inl (λ d. inr ((p.exactly fault).0 d)) (Contains-append_cases faults p.added fault (subst (λ is. Contains is fault) p.is c))),
  (λ s. subst (λ is. Contains is fault) (sym p.is)
      (⊎_elim (Contains-append_left faults p.added fault) (λ i. Contains-append_right faults p.added fault ((p.exactly fault).1 i)) s)),
)

-- the fields in the braces of a clique
module _ (w : LookOf) (ms : List MemberOf) (clique : IsClique w ms) where
  under_clique : (q : MetOf) → AreBelowThese w.rows ms q ↔ IsGiven (AreMet ms ms) (AreUnder w) q
  under_clique q = (
    (λ h. record {
      one = record { left = h.left.above; right = h.right.above };
      these = record { stands_left = h.left.stands; stands_right = h.right.stands; one_key = clique.one_key.each h.left.above h.right.above h.left.stands h.right.stands };
      gives = record {
        leads = clique.lead h.left.above h.right.above h.left.stands h.right.stands;
        left = h.left.below;
        right = h.right.below;
        one_key = h.one_key;
      };
    }),
    (λ g. record {
      left = record { above = g.one.left; stands = g.these.stands_left; below = g.gives.left };
      right = record { above = g.one.right; stands = g.these.stands_right; below = g.gives.right };
      one_key = g.gives.one_key;
    }),
  )

  pub searched_clique : (faults faults' : List Fault) (old new : List (List ℕ)) → AddsExactly (IsGiven (AreMet ms ms) (IsFaultOf w)) faults faults' → Grows w.rows (AreBelowThese w.rows ms) old new →
      Searched w (AreMet ms ms) faults faults' old new
  searched_clique faults faults' old new p g = record { tells = told_by (IsGiven (AreMet ms ms) (IsFaultOf w)) faults faults' p; grows = grows_as w.rows (AreBelowThese w.rows ms) (IsGiven (AreMet ms ms) (AreUnder w)) old new under_clique g }

-- where a group stands for the fields below
pub in_group_below : (rows : List RowOf) (group : List ℕ) (ms : List MemberOf) → ((m : MemberOf) → IsOfGroup rows group m ↔ IsBelowOne rows ms m) → (q : MetOf) → AreInGroup rows group q ↔ AreBelowThese rows ms q
in_group_below rows group ms are q = (
  (λ h. record { left = (are q.left).0 h.left; right = (are q.right).0 h.right; one_key = h.one_key }),
  (λ h. record { left = (are q.left).1 h.left; right = (are q.right).1 h.right; one_key = h.one_key }),
)

pub nothing_below : (rows : List RowOf) (group : List ℕ) (ms : List MemberOf) → ((m : MemberOf) → IsOfGroup rows group m ↔ IsBelowOne rows ms m) → group ≡ [] → (q : MetOf) → AreBelowThese rows ms q → ⊥
nothing_below rows group ms are e q h = nothing_of_none rows group e q.left ((are q.left).1 h.left)

module _ (w : LookOf) where
  abbrev Gives : (MetOf → Type 0) → MetOf → Type 0
  Gives These = IsGiven These (AreUnder w)

  -- those of which what stands in their braces meets tell all
  pub searched_led : (A B : MetOf → Type 0) (faults faults' : List Fault) (old new : List (List ℕ)) → ((p : MetOf) → A p → B p) →
      ((p : MetOf) → B p → leads_on w.entries w.purpose p.left.field_at p.right.field_at ≡ true → A p) → Searched w A faults faults' old new → Searched w B faults faults' old new
  searched_led A B faults faults' old new to from s = record {
    tells = λ i.
        let t = s.tells i in (
          (λ c. ⊎_elim inl (λ g. inr (record { one = g.one; these = to g.one g.these; gives = g.gives })) (t.0 c)),
          (λ e. t.1 (⊎_elim inl
              (λ g. inr (record { one = g.one; these = from g.one g.these (differ_leads w.entries w.purpose g.one.left.field_at g.one.right.field_at g.gives.differ); gives = g.gives })) e)),
        );
    grows = grows_as w.rows (Gives A) (Gives B) old new
        (λ q. (
          (λ g. record { one = g.one; these = to g.one g.these; gives = g.gives }),
          (λ g. record { one = g.one; these = from g.one g.these g.gives.leads; gives = g.gives }),
        )) s.grows;
  }

  pub searched_as : (A B : MetOf → Type 0) (faults faults' : List Fault) (old new : List (List ℕ)) → ((p : MetOf) → A p ↔ B p) → Searched w A faults faults' old new → Searched w B faults faults' old new
  searched_as A B faults faults' old new h s = searched_led A B faults faults' old new (λ p a. (h p).0 a) (λ p b l. (h p).1 b) s

  pub searched_both : (A B : MetOf → Type 0) (faults middle faults' : List Fault) (old between new : List (List ℕ)) → Searched w A faults middle old between → Searched w B middle faults' between new →
      Searched w (λ p. A p ⊎ B p) faults faults' old new
  searched_both A B faults middle faults' old between new a b = record {
    tells = λ i.
        let t = a.tells i in
        let u = b.tells i in (
          (λ c. ⊎_elim
              (λ d. ⊎_elim inl (λ g. inr (record { one = g.one; these = inl g.these; gives = g.gives })) (t.0 d))
              (λ g. inr (record { one = g.one; these = inr g.these; gives = g.gives })) (u.0 c)),
          (λ e. ⊎_elim
              (λ d. u.1 (inl (t.1 (inl d))))
              (λ g. ⊎_elim
              (λ l. u.1 (inl (t.1 (inr (record { one = g.one; these = l; gives = g.gives })))))
              (λ r. u.1 (inr (record { one = g.one; these = r; gives = g.gives }))) g.these) e),
        );
    grows = grows_as w.rows (λ q. Gives A q ⊎ Gives B q) (Gives (λ p. A p ⊎ B p)) old new
        (λ q. (
          (λ s. ⊎_elim (λ g. record { one = g.one; these = inl g.these; gives = g.gives }) (λ g. record { one = g.one; these = inr g.these; gives = g.gives }) s),
          (λ g. ⊎_elim (λ l. inl (record { one = g.one; these = l; gives = g.gives })) (λ r. inr (record { one = g.one; these = r; gives = g.gives })) g.these),
        ))
        (grows_both w.rows (Gives A) (Gives B) old between new a.grows b.grows);
  }

  pub searched_nowhere : (A : MetOf → Type 0) (faults : List Fault) (old : List (List ℕ)) → ((p : MetOf) → A p → ⊥) → Searched w A faults faults old old
  searched_nowhere A faults old none = record {
    tells = λ i. (inl, (λ s. ⊎_elim (λ c. c) (λ g. absurd (none g.one g.these)) s));
    grows = grows_not w.rows (Gives A) old (λ q g. none g.one g.these);
  }
