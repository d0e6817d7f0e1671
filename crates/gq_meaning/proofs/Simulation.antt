-- Two documents whose places correspond have the same response.
use Rattle.std.proofs.Common.{◌≡◌, List, [], ◌∷◌, ◌++◌, Some, sym, ap, ◌∙◌, subst}
use Rattle.gq_tree.specs.Forest.{none, more}
use Rattle.gq_meaning.specs.Results.{Step, Path}
use Rattle.gq_meaning.specs.Shown as shown
use Rattle.gq_meaning.specs.Shown.{Shown, Entries, Data}
use Rattle.gq_meaning.specs.Expand.{Definition}
use Rattle.gq_meaning.specs.Response.{Given, Place, fails, child, steps, leaf_in, has_list, has_object, has_nothing, is_non_null, IsNull, failed, nothing, by_child, ShowsAs, ShowAll, Shows, AreTold, no_more, one_more}

module _ (g : Given) (ds : List Definition) (g' : Given) (ds' : List Definition) (R : Place → Place → Type 0) where
  -- what stands below one place stands below the other
  pub record IsSimulation : Type 0 where
    pub same_type : (p q : Place) → R p q → p.type_ref ≡ q.type_ref
    pub same_result : (p q : Place) → R p q → p.result ≡ q.result
    pub same_call : (p q : Place) → R p q → p.call ≡ q.call
    pub same_leaf : (p q : Place) → R p q → leaf_in g p.type_ref p.result ≡ leaf_in g' q.type_ref q.result
    pub same_fails : (p q : Place) → R p q → fails g p ≡ fails g' q
    pub same_steps : (p q : Place) → R p q → steps g ds p ≡ steps g' ds' q
    pub follows : (p q : Place) → R p q → (s : Step) (p' : Place) → child g ds p s ≡ Some p' → (q' : Place) × (child g' ds' q s ≡ Some q') × R p' q'
    pub leads : (p q : Place) → R p q → (s : Step) (q' : Place) → child g' ds' q s ≡ Some q' → (p' : Place) × (child g ds p s ≡ Some p') × R p' q'

  module _ (sim : IsSimulation) where
    pub null_to : {p : Place} → IsNull g ds p → (q : Place) → R p q → IsNull g' ds' q
    null_to {p} (failed e) q r = failed (sym (sim.same_fails p q r) ∙ e)
    null_to {p} (nothing e) q r = nothing (ap has_nothing (sym (sim.same_result p q r)) ∙ e)
    null_to {p} (by_child {q = p'} s e n h) q r =
        let f = sim.follows p q r s p' e in
        by_child s f.1 (ap is_non_null (sym (sim.same_type p' f.0 f.2)) ∙ n) (null_to h f.0 f.2)

    pub null_from : {q : Place} → IsNull g' ds' q → (p : Place) → R p q → IsNull g ds p
    null_from {q} (failed e) p r = failed (sim.same_fails p q r ∙ e)
    null_from {q} (nothing e) p r = nothing (ap has_nothing (sim.same_result p q r) ∙ e)
    null_from {q} (by_child {q = q'} s e n h) p r =
        let f = sim.leads p q r s q' e in
        by_child s f.1 (ap is_non_null (sim.same_type f.0 q' f.2) ∙ n) (null_from h f.0 f.2)

    shows_as : (s : Shown) (B B' : Type 0) (es : Entries) (p q : Place) → R p q → (B → B') → ShowsAs g ds s B es p → ShowsAs g' ds' s B' es q
    shows_as shown.null B B' es p q r f h = (null_to h.0 q r, h.1)
    shows_as (shown.leaf v) B B' es p q r f h = ((λ n. h.0 (null_from n p r)), sym (sim.same_leaf p q r) ∙ h.1, h.2)
    shows_as shown.list B B' es p q r f h = ((λ n. h.0 (null_from n p r)), ap has_list (sym (sim.same_result p q r)) ∙ h.1, f h.2)
    shows_as shown.object B B' es p q r f h = ((λ n. h.0 (null_from n p r)), ap has_object (sym (sim.same_result p q r)) ∙ h.1, f h.2)

    show_all : (es : Entries) (p q : Place) → R p q → (ss : List Step) → ShowAll g ds es p ss → ShowAll g' ds' es q ss
    show_all none p q r ss h = h
    show_all (more e inner rest) p q r ss h =
        let c = h.2 in
        let f = sim.follows p q r e.step c.0 c.1 in (
          h.0,
          h.1,
          (
            f.0,
            f.1,
            shows_as e.shown _ _ inner c.0 f.0 f.2 (λ b. subst (λ z. ShowAll g' ds' inner f.0 z) (sim.same_steps c.0 f.0 f.2) (show_all inner c.0 f.0 f.2 _ b)) c.2,
          ),
          show_all rest p q r h.0 h.3,
        )

    pub shows_same : (d : Data) (p q : Place) → R p q → Shows g ds d p → Shows g' ds' d q
    shows_same d p q r h = shows_as d.shown _ _ d.below p q r (λ b. subst (λ z. ShowAll g' ds' d.below q z) (sim.same_steps p q r) (show_all d.below p q r _ b)) h

    pub told_same : {A : Type 0} (what what' : Path → Place → List A) → ((path : Path) (p q : Place) → R p q → what path p ≡ what' path q) →
        {path : Path} {p : Place} {ss : List Step} {out : List A} → AreTold g ds what path p ss out → (q : Place) → R p q → AreTold g' ds' what' path q ss out
    told_same what what' w no_more q r = no_more
    told_same {A} what what' w {path} {p} (one_more {q = p'} {s} {ss} {inner} {others} e h k) q r =
        let f = sim.follows p q r s p' e in
        subst (λ z. AreTold g' ds' what' path q (s ∷ ss) (z ++ inner ++ others)) (sym (w (path ++ s ∷ []) p' f.0 f.2))
        (one_more f.1 (subst (λ z. AreTold g' ds' what' (path ++ s ∷ []) f.0 z inner) (sim.same_steps p' f.0 f.2) (told_same what what' w h f.0 f.2)) (told_same what what' w k q r))

-- The other way round.
pub flipped : (g : Given) (ds : List Definition) (g' : Given) (ds' : List Definition) (R : Place → Place → Type 0) → IsSimulation g ds g' ds' R → IsSimulation g' ds' g ds (λ q p. R p q)
flipped g ds g' ds' R sim = record {
  same_type = λ q p r. sym (sim.same_type p q r);
  same_result = λ q p r. sym (sim.same_result p q r);
  same_call = λ q p r. sym (sim.same_call p q r);
  same_leaf = λ q p r. sym (sim.same_leaf p q r);
  same_fails = λ q p r. sym (sim.same_fails p q r);
  same_steps = λ q p r. sym (sim.same_steps p q r);
  follows = λ q p r s q' e. sim.leads p q r s q' e;
  leads = λ q p r s p' e. sim.follows p q r s p' e;
}
