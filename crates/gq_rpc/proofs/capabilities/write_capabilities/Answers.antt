use Rattle.std.proofs.Common.{◌≡◌, ◌∙◌, Bool, true, ap, rules}
use Rattle.serde_json.specs.Data.{boolean, object}
use Rattle.serde_json.specs.View.{view, members_view}
use Rattle.serde_json.specs.declared.value.Value.{Bool as BoolValue, the_lemmas}
use Rattle.serde_json.proofs.Views.{view-Object}
use Rattle.gq_rpc.proofs.Members.{capability_members-from_puts}
use Rattle.gq_rpc.proofs.capabilities.write_capabilities.Goals as goal

view-Bool : (b : Bool) → view (BoolValue b) ≡ boolean b
view-Bool b = search (rules, the_lemmas)

pub returns : goal.returns
returns c =
    view-Object _ ∙ ap object (capability_members-from_puts c.args.offered _ _ _ _ _ _ _ _ _ _ _ _ _ _ _ _
    (ap members_view c.new-members.ensures.empty) c.in_ok-put.ensures.ok c.in_ok-synchronization.ensures
    c.in_ok-put_where.ensures c.in_ok-rename.ensures
    c.in_ok-put_where-2.ensures (view-Bool true)
    c.in_ok-put_encoding.ensures
    c.in_ok-put_where-3.ensures (view-Bool true)
    c.in_ok-put_where-4.ensures (view-Bool true)
    c.in_ok-put_where-5.ensures (view-Object _ ∙ ap (λ es. object (members_view es)) c.new.ensures.empty)
    c.in_ok-put_where-6.ensures c.in_ok-code_actions.ensures)
