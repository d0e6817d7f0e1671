use Rattle.std.proofs.Common.{◌∙◌, ap, List}
use Rattle.std.proofs.lemmas.Result.{IfOk-weaker}
use Rattle.gq_project.specs.declared.document.Doc.{Doc}
use Rattle.gq_replies.specs.Notifications.{messages_of}
use Rattle.gq_replies.proofs.notifications.messages_of.Goals as goal

pub returns : goal.returns
returns c =
    IfOk-weaker c.notifications.result _ _
    (λ messages are report. record {
      found = c.in_ok-all.all.items;
      are_found = c.in_ok-all.ensures report;
      are = are ∙ ap (λ (documents : List Doc). messages_of c.args.encoding documents c.deref.result.now) c.documents.ensures.all ∙ ap (messages_of c.args.encoding c.args.project.now) c.deref.ensures.value;
    })
    c.notifications.ensures
