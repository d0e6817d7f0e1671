-- Runs, selection after selection.
use Rattle.std.proofs.Common.{◌≡◌, ℕ, zero, suc, ◌+◌, ◌<◌, Bool, true, false, List, [], ◌∷◌, length, take, drop, get_or, Option, Some, None, refl, sym, ap, ◌∙◌, arith, nat_eq}
use Rattle.std.specs.Prelude.{if◌then◌else◌}
use Rattle.std.proofs.lemmas.Bool.Decides.{nat_tests}
use Rattle.std.specs.Option.{option_map}
use Rattle.gq_text.specs.declared.place.Span.{Span}
use Rattle.gq_tree.specs.declared.tree.Selection.{Selection}
use Rattle.gq_tree.specs.Forest.{none, more}
use Rattle.gq_tree.specs.Plain.{Sels}
use Rattle.gq_tree.specs.Views.{sel_view, sels_view}
use Rattle.gq_rewritten.specs.Rewrites.{head_place}
use Rattle.gq_select.specs.Runs.{run_to}

-- selections before others
abbrev pub before : List Selection → Sels Span → Sels Span
before [] rest = rest
before (s ∷ ss) rest = more (sel_view s).label (sel_view s).below (before ss rest)

pub before-nothing : (ss : List Selection) → before ss none ≡ sels_view ss
before-nothing [] = refl
before-nothing (s ∷ ss) = ap (λ (rest : Sels Span). more (sel_view s).label (sel_view s).below rest) (before-nothing ss)

-- what stands at a place of a list
stands_at : (ss : List Selection) (i : ℕ) (x : Selection) → i < length ss → x ≡ get_or ss i x →
    (drop i ss ≡ x ∷ drop (suc i) ss) × ((rest : Sels Span) → before (take (suc i) ss) rest ≡ before (take i ss) (more (sel_view x).label (sel_view x).below rest))
stands_at [] i x h is = absurd (omega (arith, h))
stands_at (s ∷ ss) zero x h is = (ap (λ (y : Selection). y ∷ ss) (sym is), λ rest. ap (λ (y : Selection). more (sel_view y).label (sel_view y).below rest) (sym is))
stands_at (s ∷ ss) (suc i) x h is =
    let q = stands_at ss i x (omega (arith, h)) is in
    (q.0, λ rest. ap (λ (r : Sels Span). more (sel_view s).label (sel_view s).below r) (q.1 rest))

module _ (ss : List Selection) (i end : ℕ) (h : i < length ss) (x : Selection) (is : x ≡ get_or ss i x) (place : Span) (placed : place ≡ head_place (sel_view x).label) (invariant : option_map (before (take i ss)) (run_to end (sels_view (drop i ss))) ≡ run_to end (sels_view ss)) where
  next : i + 1 ≡ suc i
  next = omega arith

  here : sels_view (drop i ss) ≡ more (sel_view x).label (sel_view x).below (sels_view (drop (suc i) ss))
  here = ap sels_view ((stands_at ss i x h is).0)

  -- the run ends here
  pub run_found : place.end ≡ end → Some (sels_view (take (i + 1) ss)) ≡ run_to end (sels_view ss)
  run_found e =
      let ends : nat_eq (head_place (sel_view x).label).end end ≡ true = (let f = ap (λ (p : Span). p.end) placed in grind (arith, nat_tests, e, f)) in
      let mine : run_to end (more (sel_view x).label (sel_view x).below (sels_view (drop (suc i) ss))) ≡ Some (more (sel_view x).label (sel_view x).below none) =
      ap (λ (b : Bool). if b then Some (more (sel_view x).label (sel_view x).below none) else option_map (λ run. more (sel_view x).label (sel_view x).below run) (run_to end (sels_view (drop (suc i) ss)))) ends in
      ap (λ (n : ℕ). Some (sels_view (take n ss))) next
      ∙ ap Some (sym (before-nothing (take (suc i) ss)))
      ∙ ap Some ((stands_at ss i x h is).1 none)
      ∙ ap (option_map (before (take i ss))) (sym (ap (run_to end) here ∙ mine))
      ∙ invariant

  -- it goes on
  pub run_later : (place.end ≡ end → ⊥) → option_map (before (take (i + 1) ss)) (run_to end (sels_view (drop (i + 1) ss))) ≡ run_to end (sels_view ss)
  run_later e =
      let goes : nat_eq (head_place (sel_view x).label).end end ≡ false = (let f = ap (λ (p : Span). p.end) placed in grind (arith, nat_tests, e, f)) in
      let mine : run_to end (more (sel_view x).label (sel_view x).below (sels_view (drop (suc i) ss))) ≡ option_map (λ run. more (sel_view x).label (sel_view x).below run) (run_to end (sels_view (drop (suc i) ss))) =
      ap (λ (b : Bool). if b then Some (more (sel_view x).label (sel_view x).below none) else option_map (λ run. more (sel_view x).label (sel_view x).below run) (run_to end (sels_view (drop (suc i) ss)))) goes in
      ap (λ (n : ℕ). option_map (before (take n ss)) (run_to end (sels_view (drop n ss)))) next
      ∙ joined (run_to end (sels_view (drop (suc i) ss)))
      ∙ ap (option_map (before (take i ss))) (sym (ap (run_to end) here ∙ mine))
      ∙ invariant
    where
      joined : (r : Option (Sels Span)) → option_map (before (take (suc i) ss)) r ≡ option_map (before (take i ss)) (option_map (λ run. more (sel_view x).label (sel_view x).below run) r)
      joined None = refl
      joined (Some run) = ap Some ((stands_at ss i x h is).1 run)
