-- What is judged to be no valid project is none.
use Rattle.std.proofs.Common.{◌≡◌, true, ◌∙◌, ap, sym, subst, List}
use Rattle.std.proofs.Math.Logic.{∥∥₁_elim}
use Rattle.gq_project.specs.declared.document.Doc.{Doc}
use Rattle.gq_rules.specs.Validity.{IsValid}
use Rattle.gq_kept.specs.KeptOf.{JudgedOf}
use Rattle.gq_kept.specs.Helping.Judgements.{judged_view, IsJudgement}
use Rattle.gq_kept.proofs.judged.Judged.valid.Goals as goal

pub returns-in-Invalid-clause-none : goal.returns-in-Invalid-clause-none
returns-in-Invalid-clause-none c valid =
    let held : judged_view c.self.inside.held ≡ record { documents = c.in-Invalid.field-0; is_judged = true } = ap judged_view c.in-Invalid.is in
    let documents = ap (λ (j : JudgedOf). j.documents) (sym c.self.view_is ∙ held) in
    ∥∥₁_elim c.self.invariant (λ x y. absurd x)
    (λ judgement. subst IsJudgement c.in-Invalid.is judgement (subst (λ (ds : List Doc). IsValid ds) documents valid))
