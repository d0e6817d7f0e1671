use Rattle.std.proofs.lemmas.List.Elements.{All-more}
use Rattle.gq_types.specs.Look.{types_view}
use Rattle.gq_type_system.specs.FaultsAt.{IsFaultlessAt}
use Rattle.gq_type_system.proofs.faultless.are_faultless.Goals as goal

pub loop-number-preserved : goal.loop-number-preserved
loop-number-preserved c =
    All-more (IsFaultlessAt (types_view c.args.types.now)) c.args.numbers.now c.loop-number.number-index 0 c.loop-number-test.true c.loop-number.invariant
    (c.in_ok-is_faultless.ensures c.if-not-branch.false)
