-- A place has one data, and one list of what is told below it.
use Rattle.std.proofs.Common.{◌≡◌, Bool, true, false, List, [], ◌∷◌, ◌++◌, Option, Some, None, refl, sym, ap, ◌∙◌, subst}
use Rattle.gq_tree.specs.Forest.{none, more}
use Rattle.gq_tree.specs.Plain.{named, list_of, non_null}
use Rattle.gq_meaning.specs.Values.{Leaf}
use Rattle.gq_meaning.specs.Results as result
use Rattle.gq_meaning.specs.Results.{Result, Answer, Step, Path}
use Rattle.gq_meaning.specs.Shown as shown
use Rattle.gq_meaning.specs.Shown.{Shown, Entry, Entries, Data}
use Rattle.gq_meaning.specs.Expand.{Definition}
use Rattle.gq_meaning.specs.Response.{FieldType, Given, Place, child, steps, written, leaf_in, is_list, is_object, has_list, has_object, ShowsAs, ShowAll, Shows, AreTold, no_more, one_more}

module _ (g : Given) (ds : List Definition) where
  written_is : (t : FieldType) (r : Result) (v : Leaf) → written g t r ≡ Some v → (is_list r ≡ false) × (is_object r ≡ false)
  written_is (named name) result.nothing v e = cc
  written_is (named name) result.failed v e = cc
  written_is (named name) (result.leaf w) v e = (refl, refl)
  written_is (named name) (result.object t i) v e = cc
  written_is (named name) result.list v e = cc
  written_is (list_of item) r v e = cc
  written_is (non_null inner) r v e = written_is inner r v e

  leaf_is : (t : Option FieldType) (r : Option Answer) (v : Leaf) → leaf_in g t r ≡ Some v → (has_list r ≡ false) × (has_object r ≡ false)
  leaf_is None r v e = cc
  leaf_is (Some t) None v e = cc
  leaf_is (Some t) (Some r) v e = written_is t r.label v e

  one_kind : (r : Option Answer) → has_list r ≡ true → has_object r ≡ true → ⊥
  one_kind None e f = cc
  one_kind (Some r) e f = by_label r.label e f
    where
      by_label : (l : Result) → is_list l ≡ true → is_object l ≡ true → ⊥
      by_label result.nothing e f = cc
      by_label result.failed e f = cc
      by_label (result.leaf w) e f = cc
      by_label (result.object t i) e f = cc
      by_label result.list e f = cc

  clash : (b : Bool) → b ≡ true → b ≡ false → ⊥
  clash b e f = let bad : true ≡ false = sym e ∙ f in cc

  one_as : (s s' : Shown) (B B' : Type 0) (es es' : Entries) (p : Place) → (B → B' → es ≡ es') → ShowsAs g ds s B es p → ShowsAs g ds s' B' es' p → (s ≡ s') × (es ≡ es')
  one_as shown.null shown.null B B' es es' p f h h' = (refl, h.1 ∙ sym h'.1)
  one_as shown.null (shown.leaf v) B B' es es' p f h h' = absurd (h'.0 h.0)
  one_as shown.null shown.list B B' es es' p f h h' = absurd (h'.0 h.0)
  one_as shown.null shown.object B B' es es' p f h h' = absurd (h'.0 h.0)
  one_as (shown.leaf v) shown.null B B' es es' p f h h' = absurd (h.0 h'.0)
  one_as (shown.leaf v) (shown.leaf w) B B' es es' p f h h' = (let e : Some v ≡ Some w = sym h.1 ∙ h'.1 in cc, h.2 ∙ sym h'.2)
  one_as (shown.leaf v) shown.list B B' es es' p f h h' = absurd (clash (has_list p.result) h'.1 (leaf_is p.type_ref p.result v h.1).0)
  one_as (shown.leaf v) shown.object B B' es es' p f h h' = absurd (clash (has_object p.result) h'.1 (leaf_is p.type_ref p.result v h.1).1)
  one_as shown.list shown.null B B' es es' p f h h' = absurd (h.0 h'.0)
  one_as shown.list (shown.leaf v) B B' es es' p f h h' = absurd (clash (has_list p.result) h.1 (leaf_is p.type_ref p.result v h'.1).0)
  one_as shown.list shown.list B B' es es' p f h h' = (refl, f h.2 h'.2)
  one_as shown.list shown.object B B' es es' p f h h' = absurd (one_kind p.result h.1 h'.1)
  one_as shown.object shown.null B B' es es' p f h h' = absurd (h.0 h'.0)
  one_as shown.object (shown.leaf v) B B' es es' p f h h' = absurd (clash (has_object p.result) h.1 (leaf_is p.type_ref p.result v h'.1).1)
  one_as shown.object shown.list B B' es es' p f h h' = absurd (one_kind p.result h'.1 h.1)
  one_as shown.object shown.object B B' es es' p f h h' = (refl, f h.2 h'.2)

  one_entry : (e e' : Entry) (i i' r r' : Entries) → e.step ≡ e'.step → e.shown ≡ e'.shown → i ≡ i' → r ≡ r' → more e i r ≡ more e' i' r'
  one_entry e e' i i' r r' a b c d =
      let same : e ≡ e' = ap (λ z. record { step = z; shown = e.shown }) a ∙ ap (λ z. record { step = e'.step; shown = z }) b in
      ap (λ z. more z i r) same ∙ ap (λ z. more e' z r) c ∙ ap (λ z. more e' i' z) d

  one_all : (es : Entries) (p : Place) (ss : List Step) → ShowAll g ds es p ss → (es' : Entries) → ShowAll g ds es' p ss → es ≡ es'
  one_all none p ss h none h' = refl
  one_all none p ss h (more e inner rest) h' = let bad : e.step ∷ h'.0 ≡ [] = sym h'.1 ∙ h in cc
  one_all (more e inner rest) p ss h none h' = let bad : e.step ∷ h.0 ≡ [] = sym h.1 ∙ h' in cc
  one_all (more e inner rest) p ss h (more e' inner' rest') h' =
      let at : e.step ∷ h.0 ≡ e'.step ∷ h'.0 = sym h.1 ∙ h'.1 in
      let here : e.step ≡ e'.step = cc in
      let others : h.0 ≡ h'.0 = cc in
      let there : Some h.2.0 ≡ Some h'.2.0 = sym h.2.1 ∙ ap (λ z. child g ds p z) here ∙ h'.2.1 in
      let place : h.2.0 ≡ h'.2.0 = cc in
      let moved = subst (λ z. ShowsAs g ds e'.shown (ShowAll g ds inner' z (steps g ds z)) inner' z) (sym place) h'.2.2 in
      let one = one_as e.shown e'.shown _ _ inner inner' h.2.0 (λ b b'. one_all inner h.2.0 (steps g ds h.2.0) b inner' b') h.2.2 moved in
      one_entry e e' inner inner' rest rest' here one.0 one.1 (one_all rest p h.0 h.3 rest' (subst (λ z. ShowAll g ds rest' p z) (sym others) h'.3))

  pub one_data : (d d' : Data) (p : Place) → Shows g ds d p → Shows g ds d' p → d ≡ d'
  one_data d d' p h h' =
      let one = one_as d.shown d'.shown _ _ d.below d'.below p (λ b b'. one_all d.below p (steps g ds p) b d'.below b') h h' in
      ap (λ z. record { shown = z; below = d.below }) one.0 ∙ ap (λ z. record { shown = d'.shown; below = z }) one.1

  pub one_told : {A : Type 0} (what : Path → Place → List A) {path : Path} {p : Place} {ss : List Step} {out out' : List A} → AreTold g ds what path p ss out → AreTold g ds what path p ss out' → out ≡ out'
  one_told what no_more no_more = refl
  one_told {A} what {path} (one_more {q} {s} {ss} {inner} {others} e h k) (one_more {q = q'} {inner = inner'} {others = others'} e' h' k') =
      let there : Some q ≡ Some q' = sym e ∙ e' in
      let place : q ≡ q' = cc in
      ap (λ z. what (path ++ s ∷ []) z ++ inner ++ others) place
      ∙ ap (λ z. what (path ++ s ∷ []) q' ++ z ++ others) (one_told what h (subst (λ z. AreTold g ds what (path ++ s ∷ []) z (steps g ds z) inner') (sym place) h'))
      ∙ ap (λ z. what (path ++ s ∷ []) q' ++ inner' ++ z) (one_told what k k')
