use Rattle.gq_types.specs.Look.{types_view}
use Rattle.gq_types.specs.Possible.{IsPossible}
use Rattle.gq_types.specs.SubtypesTests.{is_possible}
use Rattle.gq_types.proofs.SubtypeLemmas.{possible_decides}
use Rattle.gq_fragments.proofs.SharedLemmas.{same_answer}
use Rattle.gq_fragments.proofs.shared_objects.is_possible.Goals as goal

pub returns : goal.returns
returns c =
    let es = types_view c.args.types.now in
    same_answer (IsPossible es c.args.condition.now c.args.object.now) c.applies.result (is_possible es c.args.condition.now c.args.object.now) c.applies.ensures (possible_decides es c.args.condition.now c.args.object.now)
