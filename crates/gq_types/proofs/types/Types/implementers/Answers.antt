use Rattle.std.proofs.Common.{rules, ◌≤◌, length, ap, ◌∙◌}
use Rattle.std.specs.List.{filter}
use Rattle.std.proofs.lemmas.List.{take_all}
use Rattle.gq_types.specs.Look.{types_view}
use Rattle.gq_types.specs.Declarers.{declarers}
use Rattle.gq_types.proofs.ImplementerLemmas.{test_at, implementers_are}
use Rattle.gq_types.proofs.types.Types.implementers.Goals as goal

pub returns : goal.returns
returns c =
    let es = types_view c.args.self.now in
    let all : length (declarers es c.args.interface.now) ≤ c.loop-number.number-index = search rules in
    c.loop-number.invariant ∙ ap (filter (test_at es c.args.interface.now)) (take_all c.loop-number.number-index (declarers es c.args.interface.now) all)
    ∙ implementers_are es c.args.interface.now
