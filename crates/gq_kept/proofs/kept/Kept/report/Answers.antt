-- What is told of the project, or that nothing is.
use Rattle.std.proofs.Common.{List, Option, IfSome, IfNone, sym, subst, ap, ◌∙◌}
use mathlib.Core.Logic.{∥∥₁_map, ∥∥₁_elim}
use Rattle.gq_project.specs.declared.document.Doc.{Doc}
use Rattle.gq_fault.specs.declared.found.Found.{Found}
use Rattle.gq_rules.specs.declared.report.Report.{Report}
use Rattle.gq_rules.specs.Validity.{IsReportOf, IsValid, IsInvalid}
use Rattle.gq_kept.specs.KeptOf.{KeptOf}
use Rattle.gq_kept.proofs.KeptLemmas.{report_of_valid}
use Rattle.gq_kept.proofs.kept.Kept.report.Goals as goal

pub set_invalid-requires : goal.set_invalid-requires
set_invalid-requires c valid =
    let documents : List Doc = c.args.self.now.documents in
    ∥∥₁_elim c.in_ok-report.ensures.invalid (λ x y. absurd x)
    (λ told.
    let both = subst (λ (o : Option Report). IfSome o (λ r. IsReportOf documents r.found.items × IsInvalid documents)) c.in-Some.is told in
    c.no_project_is_valid_and_invalid.ensures documents (subst (λ (ds : List Doc). IsValid ds) (ap (λ (k : KeptOf). k.documents) (c.self.view_is ∙ c.in_ok-report.ensures.same)) valid) both.1)

pub set_valid-requires : goal.set_valid-requires
set_valid-requires c =
    let documents : List Doc = c.args.self.now.documents in
    ∥∥₁_map c.in_ok-report.ensures.valid
    (λ told. subst (λ (ds : List Doc). IsValid ds) (sym (ap (λ (k : KeptOf). k.documents) (c.self.view_is ∙ c.in_ok-report.ensures.same))) (subst (λ (o : Option Report). IfNone o (IsValid documents)) c.in-None.is told))

pub returns-in-Some-clause-report : goal.returns-in-Some-clause-report
returns-in-Some-clause-report c =
    let documents : List Doc = c.args.self.now.documents in
    ∥∥₁_map c.in_ok-report.ensures.invalid
    (λ told. (subst (λ (o : Option Report). IfSome o (λ r. IsReportOf documents r.found.items × IsInvalid documents)) c.in-Some.is told).0)

pub returns-in-None-clause-report : goal.returns-in-None-clause-report
returns-in-None-clause-report c =
    let documents : List Doc = c.args.self.now.documents in
    ∥∥₁_map c.in_ok-report.ensures.valid
    (λ told.
    subst (λ (found : List Found). IsReportOf documents found) (sym c.new.ensures.items)
    (report_of_valid documents (subst (λ (o : Option Report). IfNone o (IsValid documents)) c.in-None.is told)))
