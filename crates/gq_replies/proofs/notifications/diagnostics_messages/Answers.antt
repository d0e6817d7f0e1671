use Rattle.std.proofs.Common.{◌∙◌, ap, sym, subst, List}
use mathlib.Core.Logic.{∥∥₁_map}
use Rattle.gq_project.specs.declared.document.Doc.{Doc}
use Rattle.gq_edit.specs.Workspace.{AreTexts}
use Rattle.gq_kept.specs.KeptOf.{KeptOf}
use Rattle.gq_rules.specs.Validity.{IsReportOf}
use Rattle.gq_replies.specs.Notifications.{AreDiagnosticsMessages}
use Rattle.gq_replies.proofs.notifications.diagnostics_messages.Goals as goal

pub messages_of-requires : goal.messages_of-requires
messages_of-requires c = subst AreTexts (sym (c.project.ensures ∙ ap (λ (k : KeptOf). k.documents) c.in_ok-report.ensures.ok)) c.requires

pub returns-clause-messages : goal.returns-clause-messages
returns-clause-messages c =
    let same = c.project.ensures ∙ ap (λ (k : KeptOf). k.documents) c.in_ok-report.ensures.ok in
    ∥∥₁_map c.in_ok-report.ensures.report
    (λ report. subst (λ (ds : List Doc). AreDiagnosticsMessages c.args.encoding ds c.in_ok-messages.messages.items) same
    (c.in_ok-messages.ensures (subst (λ (ds : List Doc). IsReportOf ds c.in_ok-report.report.found.items) (sym same) report)))
