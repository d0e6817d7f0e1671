-- An edit gives one action, a refusal none.
use Rattle.std.proofs.Common.{◌≡◌, true, Option, ◌∙◌, sym, ap, subst, rules}
use mathlib.Core.Logic.{∥∥₁_map}
use Rattle.gq_edit.specs.Workspace.{workspace_edit_of}
use Rattle.gq_reshape.specs.Asks.{RangeAsk}
use Rattle.gq_replies.specs.Helping.Results.{IsEditIfAny}
use Rattle.gq_replies.proofs.Offering.{adds_one, adds_none}
use Rattle.gq_replies.proofs.code_actions.put_action.Goals as goal

pub returns-in_ok-push-in-Some : goal.returns-in_ok-push-in-Some
returns-in_ok-push-in-Some c =
    let asked : c.is_asked_for.result ≡ true = search rules in
    let ask : RangeAsk = record { key = c.as_str.result.now; range = c.args.range } in
    ∥∥₁_map c.in_ok-edit.ensures.edit
    (λ if_any.
    adds_one c.args.encoding c.args.studied.now.valid.now c.as_str.result.now c.args.params.now.key c.args.range c.as_str.ensures c.args.params.now.only c.args.kind (sym c.is_asked_for.ensures ∙ asked) c.args.actions.now
    c.in-Some.edit c.in_ok-edit-in-Some.edit c.push.new.self (subst (λ o. IsEditIfAny c.args.kind c.args.studied.now.valid.now ask o) c.in-Some.is if_any)
    (c.in_ok-edit-in-Some.ensures ∙ ap (λ documents. workspace_edit_of c.args.encoding documents c.in-Some.edit) c.project.ensures.same) c.in_ok-push-in-Some.ensures.ok)

pub returns-in-None : goal.returns-in-None
returns-in-None c =
    let asked : c.is_asked_for.result ≡ true = search rules in
    let ask : RangeAsk = record { key = c.as_str.result.now; range = c.args.range } in
    ∥∥₁_map c.in_ok-edit.ensures.edit
    (λ if_any.
    adds_none c.args.encoding c.args.studied.now.valid.now c.as_str.result.now c.args.params.now.key c.args.range c.as_str.ensures c.args.params.now.only c.args.kind (sym c.is_asked_for.ensures ∙ asked) c.args.actions.now
    (subst (λ o. IsEditIfAny c.args.kind c.args.studied.now.valid.now ask o) c.in-None.is if_any))
