use Rattle.std.proofs.Common.{◌∙◌, ℕ, List, subst, sym, ap}
use Rattle.std.specs.Option.{option_map}
use Rattle.gq_tree.specs.Views.{sels_view}
use Rattle.gq_types.specs.Look.{types_view, text_of}
use Rattle.gq_document.specs.SetViews.{set_view, sets_view}
use Rattle.gq_select.specs.Touched.{Touches}
use Rattle.gq_select.specs.TouchedPlace.{IsTouchedPlace}
use Rattle.gq_reshape.specs.Extract.{innermost_at, run_at}
use Rattle.gq_reshape.specs.Helping.Steps.{IsPossibleParent}
use Rattle.gq_reshape.proofs.ExtractAnswers.{is_run, untouched, without_run, without_type}
use Rattle.gq_reshape.proofs.extracting.extract_range.Goals as goal

pub returns-in_default-clause-answer : goal.returns-in_default-clause-answer
returns-in_default-clause-answer c known index =
    untouched c.args.asked c.requires c.one_reading.ensures c.as_str.result.now c.as_str.ensures (subst (IsTouchedPlace c.as_str.result.now c.args.asked.range) c.in_default.is c.in_ok-place.ensures)

pub returns-in_default-find_run-clause-answer : goal.returns-in_default-find_run-clause-answer
returns-in_default-find_run-clause-answer c known index =
    let a = c.args.asked in
    let T : List ℕ → Type 0 = λ text. Touches text a.range c.in-Some.place in
    let touches = subst T c.as_str.ensures (subst (IsTouchedPlace c.as_str.result.now a.range) c.in-Some.is c.in_ok-place.ensures) in
    without_run a c.requires c.one_reading.ensures c.in-Some.place touches (option_map set_view c.innermost.result) c.in_ok-no_run.field-0
    (ap (run_at c.in-Some.place) (sym (ap sets_view c.deref.ensures.value ∙ c.in_ok-sets.ensures)) ∙ sym c.in_default-find_run.ensures)
    (ap (innermost_at c.in-Some.place) (sym (ap sets_view c.deref-in_default-find_run.ensures.value ∙ c.in_ok-sets.ensures)) ∙ sym c.innermost.ensures)
    c.in_ok-no_run.ensures

pub extract_run-requires-clause-run : goal.extract_run-requires-clause-run
extract_run-requires-clause-run c =
    let a = c.args.asked in
    let run = c.in-Some-find_run.run' in
    let T : List ℕ → Type 0 = λ text. Touches text a.range c.in-Some.place in
    let touches = subst T c.as_str.ensures (subst (IsTouchedPlace c.as_str.result.now a.range) c.in-Some.is c.in_ok-place.ensures) in (
      sels_view run.selections.now,
      is_run a c.requires c.in-Some.place (text_of run.parent) (sels_view run.selections.now) c.in-Some-2.on.now touches
          (ap (run_at c.in-Some.place) (sym (ap sets_view c.deref.ensures.value ∙ c.in_ok-sets.ensures)) ∙ sym c.in-Some-find_run.ensures)
          (subst (λ o. IsPossibleParent (types_view a.known.types.now) (text_of run.parent) (text_of o)) c.in-Some-2.is c.in_ok-on.ensures),
    )

pub returns-clause-answer : goal.returns-clause-answer
returns-clause-answer c known index =
    let a = c.args.asked in
    let run = c.in-Some-find_run.run' in
    let T : List ℕ → Type 0 = λ text. Touches text a.range c.in-Some.place in
    let touches = subst T c.as_str.ensures (subst (IsTouchedPlace c.as_str.result.now a.range) c.in-Some.is c.in_ok-place.ensures) in
    without_type a c.requires c.one_reading.ensures c.in-Some.place touches (text_of run.parent) (sels_view run.selections.now) (ap (run_at c.in-Some.place) (sym (ap sets_view c.deref.ensures.value ∙ c.in_ok-sets.ensures)) ∙ sym c.in-Some-find_run.ensures)
    (subst (λ o. IsPossibleParent (types_view a.known.types.now) (text_of run.parent) (text_of o)) c.in-None.is c.in_ok-on.ensures)
