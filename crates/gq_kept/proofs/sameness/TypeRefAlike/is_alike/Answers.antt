use Rattle.std.proofs.Common.{sym, ◌∙◌}
use Rattle.gq_tree.specs.Views.{type_view}
use Rattle.gq_tree.proofs.Sameness.{types_decide}
use Rattle.gq_kept.proofs.sameness.TypeRefAlike.is_alike.Goals as goal

pub returns : goal.returns
returns c = λ h. (types_decide (type_view c.args.self.now) (type_view c.args.other.now)).0 (sym c.is_same_type.ensures ∙ h)
