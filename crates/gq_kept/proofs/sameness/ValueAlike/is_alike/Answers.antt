use Rattle.std.proofs.Common.{sym, ◌∙◌}
use Rattle.gq_tree.specs.Views.{value_view}
use Rattle.gq_tree.proofs.Sameness.{values_decide}
use Rattle.gq_kept.proofs.sameness.ValueAlike.is_alike.Goals as goal

pub returns : goal.returns
returns c = λ h. (values_decide (value_view c.args.self.now) (value_view c.args.other.now)).0 (sym c.same_value.ensures ∙ h)
