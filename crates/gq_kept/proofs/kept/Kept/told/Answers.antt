-- What is told of what is known is told of the project.
use Rattle.std.proofs.Common.{◌∙◌, List, IfSome, IfNone, ap, subst}
use Rattle.std.proofs.lemmas.Result.{IfOk-weaker}
use Rattle.gq_project.specs.declared.document.Doc.{Doc}
use Rattle.gq_rules.specs.Validity.{IsReportOf, IsValid, IsInvalid}
use Rattle.gq_kept.specs.KeptOf.{KeptOf}
use Rattle.gq_kept.proofs.KeptLemmas.{both_known, kept_owned}
use Rattle.gq_kept.proofs.kept.Kept.told.Goals as goal

pub invariant_of-self : goal.invariant_of-self
invariant_of-self c = kept_owned _ _ _ _ _ c.self.invariant c.report_if_any.new.found (λ owned. rw (← c.deref.ensures.value) (c.report_if_any.ensures.kept (rw c.deref.ensures.value owned)))

pub returns-clause-valid : goal.returns-clause-valid
returns-clause-valid c =
    IfOk-weaker c.report_if_any.result _ _
    (λ report told. both_known c.self.invariant.known c.self.invariant.owned
    (λ known owned. subst (λ (ds : List Doc). IfNone report (IsValid ds)) (c.project.ensures ∙ ap (λ (k : KeptOf). k.documents) c.self.view_is) (told (rw (c.project.ensures, c.deref.ensures.value) known) (rw c.deref.ensures.value owned))))
    c.report_if_any.ensures.valid

pub returns-clause-invalid : goal.returns-clause-invalid
returns-clause-invalid c =
    IfOk-weaker c.report_if_any.result _ _
    (λ report told. both_known c.self.invariant.known c.self.invariant.owned
    (λ known owned. subst (λ (ds : List Doc). IfSome report (λ r. IsReportOf ds r.found.items × IsInvalid ds)) (c.project.ensures ∙ ap (λ (k : KeptOf). k.documents) c.self.view_is) (told (rw (c.project.ensures, c.deref.ensures.value) known) (rw c.deref.ensures.value owned))))
    c.report_if_any.ensures.invalid
