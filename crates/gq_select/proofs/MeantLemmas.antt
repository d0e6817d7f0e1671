-- The selection that begins last, set after set.
use Rattle.std.proofs.Common.{◌≡◌, ℕ, zero, suc, ◌+◌, ◌<◌, Bool, List, [], ◌∷◌, ◌++◌, length, drop, get_or, Option, Some, None, refl, sym, ap, ◌∙◌, arith}
use Rattle.std.specs.Prelude.{if◌then◌else◌}
use Rattle.gq_tree.specs.Views.{sels_view}
use Rattle.gq_types.specs.Look.{text_of}
use Rattle.gq_document.specs.declared.sets.SetIn.{SetIn}
use Rattle.gq_document.specs.SetViews.{sets_view}
use Rattle.gq_select.specs.Meant.{StandingOf, begins_last, later, standing, standing_in}

begins_last_append : (test : StandingOf → Bool) (best : Option StandingOf) (xs ys : List StandingOf) → begins_last test best (xs ++ ys) ≡ begins_last test (begins_last test best xs) ys
begins_last_append test best [] ys = refl
begins_last_append test best (x ∷ xs) ys = begins_last_append test (if test x then later best x else best) xs ys

drop_read : {X : Type 0} (xs : List X) (i : ℕ) (x : X) → i < length xs → x ≡ get_or xs i x → drop i xs ≡ x ∷ drop (suc i) xs
drop_read [] i x h is = absurd (omega (arith, h))
drop_read (y ∷ ys) zero x h is = ap (λ z. z ∷ ys) (sym is)
drop_read (y ∷ ys) (suc i) x h is = drop_read ys i x (omega (arith, h)) is

pub meant_later : (test : StandingOf → Bool) (sets : List SetIn) (i : ℕ) (x : SetIn) (best next whole : Option StandingOf) → i < length sets → x ≡ get_or sets i x → next ≡ begins_last test best (standing_in (text_of x.parent) (sels_view x.selections.now)) →
    begins_last test best (standing (sets_view (drop i sets))) ≡ whole → begins_last test next (standing (sets_view (drop (i + 1) sets))) ≡ whole
meant_later test sets i x best next whole h is mine invariant =
    let more : i + 1 ≡ suc i = omega arith in
    ap (λ (n : ℕ). begins_last test next (standing (sets_view (drop n sets)))) more
    ∙ ap (λ (b : Option StandingOf). begins_last test b (standing (sets_view (drop (suc i) sets)))) mine
    ∙ sym (begins_last_append test best (standing_in (text_of x.parent) (sels_view x.selections.now)) (standing (sets_view (drop (suc i) sets))))
    ∙ ap (λ (ss : List SetIn). begins_last test best (standing (sets_view ss))) (sym (drop_read sets i x h is))
    ∙ invariant
