-- The actions of all kinds, one kind after the other.
use mathlib.Core.Logic.{∥∥₁_elim, ∥∥₁_prop}
use Rattle.gq_replies.proofs.Keeping.{by_both}
use Rattle.gq_replies.proofs.Offering.{all_given}
use Rattle.gq_replies.proofs.code_actions.actions_over.Goals as goal

pub returns : goal.returns
returns c id =
    ∥∥₁_elim c.in_ok-put_action.ensures ∥∥₁_prop
    (λ e. by_both c.in_ok-put_action-2.ensures c.in_ok-put_action-3.ensures
    (λ i r. all_given c.args.encoding c.args.studied.now.valid.now c.args.params.now c.args.range id c.new-actions.result c.put_action.new.actions c.put_action-2.new.actions c.put_action-3.new.actions c.new-actions.ensures e i r))
