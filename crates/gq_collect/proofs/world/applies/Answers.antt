use Rattle.std.proofs.Common.{◌≡◌, ap, ◌∙◌}
use Rattle.std.specs.Bool.{one_answer}
use Rattle.gq_types.specs.Look.{types_view}
use Rattle.gq_types.specs.SubtypesTests.{is_possible}
use Rattle.gq_types.proofs.SubtypeLemmas.{possible_decides}
use Rattle.gq_collect.proofs.world.applies.Goals as goal

pub returns : goal.returns
returns c =
    one_answer _ _ (c.applies.ensures.0, c.applies.ensures.1) (possible_decides (types_view c.types.result.now) c.args.condition.now c.args.object.now)
    ∙ ap (λ es. is_possible es c.args.condition.now c.args.object.now) c.types.ensures
