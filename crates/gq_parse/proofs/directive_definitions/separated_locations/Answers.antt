use Rattle.std.proofs.Common.{arith}
use Rattle.gq_parse.proofs.Fronts.{front_start, front_put}
use Rattle.gq_parse.proofs.UniqueDocuments.{unique_location}
use Rattle.gq_parse.proofs.MadeNames.{followed_by, separated_put, not_separated}
use Rattle.gq_parse.proofs.directive_definitions.separated_locations.Goals as goal

pub loop-one-init : goal.loop-one-init
loop-one-init c = record { after = omega arith; within = c.requires; front = front_start _ c.new-locations.ensures.items }

pub loop-one-preserved : goal.loop-one-preserved
loop-one-preserved c = record {
  after = omega (arith, c.in-Some.ensures.within.0, c.in-Some-punctuator.ensures.within.0, c.loop-one.invariant.after);
  within = c.in-Some-punctuator.ensures.within.1;
  front = front_put _ _ _ c.in_ok-put_location.ensures.ok c.loop-one.invariant.front (followed_by c.in-Some.ensures.found c.in-Some-punctuator.ensures.found);
}

pub returns-in-None-clause-found : goal.returns-in-None-clause-found
returns-in-None-clause-found c =
    let read = separated_put _ _ _ c.in_ok-put_location.ensures.ok c.loop-one.invariant.front c.in-Some.ensures.found c.in-None.ensures.none in
    rw c.shrink_to_fit.ensures.items read

pub returns-in_default-clause-none : goal.returns-in_default-clause-none
returns-in_default-clause-none c = λ e. not_separated unique_location c.loop-one.invariant.front c.in_default.ensures.none
