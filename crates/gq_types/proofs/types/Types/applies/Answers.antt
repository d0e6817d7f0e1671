use Rattle.std.proofs.Common.{sym, ◌∙◌}
use Rattle.gq_types.specs.Look.{types_view}
use Rattle.gq_types.proofs.SubtypeLemmas.{possible_decides}
use Rattle.gq_types.proofs.types.Types.applies.Goals as goal

pub returns : goal.returns
returns c =
    let d = possible_decides (types_view c.args.self.now) c.args.condition.now c.args.object.now in
    (λ h. d.0 (sym c.is_possible.ensures ∙ h), λ h. c.is_possible.ensures ∙ d.1 h)
