use Rattle.std.proofs.Common.{◌∙◌, ap, sym, subst, List}
use Rattle.gq_project.specs.declared.document.Doc.{Doc}
use Rattle.gq_edit.specs.Workspace.{AreTexts}
use Rattle.gq_kept.specs.KeptOf.{KeptOf}
use Rattle.gq_rpc.specs.declared.messages.Outgoing.TheVariants as outgoing
use Rattle.gq_replies.specs.Answers.{span_at}
use Rattle.gq_replies.specs.CodeActions.{TellsCodeActions}
use Rattle.gq_replies.proofs.Offering.{tells_unasked}
use Rattle.gq_replies.proofs.code_actions.ask_code_actions.Goals as goal

pub returns-then-not-is_any_asked_for-clause-told : goal.returns-then-not-is_any_asked_for-clause-told
returns-then-not-is_any_asked_for-clause-told c =
    let range = span_at c.args.encoding c.args.kept.now.documents c.args.params.now.key c.args.params.now.range in
    rw c.new.ensures (λ id. ∣ tells_unasked c.args.encoding c.args.kept.now.documents c.args.params.now range (sym c.is_any_asked_for.ensures ∙ c.if-not-is_any_asked_for.true) id ∣₁)

pub actions_studied-requires-clause-texts : goal.actions_studied-requires-clause-texts
actions_studied-requires-clause-texts c = subst AreTexts (sym c.in_ok-study.ensures.documents) c.requires

pub returns-clause-told : goal.returns-clause-told
returns-clause-told c = λ id.
    subst (λ (ds : List Doc). ∥ TellsCodeActions c.args.encoding ds id c.args.params.now (span_at c.args.encoding ds c.args.params.now.key c.args.params.now.range) (outgoing.CodeActions id c.in_ok-actions.actions) ∥₁)
    c.in_ok-study.ensures.documents (c.in_ok-actions.ensures id)
