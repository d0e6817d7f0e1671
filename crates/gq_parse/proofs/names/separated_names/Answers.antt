use Rattle.std.proofs.Common.{arith, ap, map}
use Rattle.std.proofs.lemmas.Result.{err_from_is_err_and}
use Rattle.gq_tree.specs.Views.{name_of}
use Rattle.gq_parse.proofs.Fronts.{front_start, front_put}
use Rattle.gq_parse.proofs.UniqueTypeSystem.{unique_name}
use Rattle.gq_parse.proofs.MadeNames.{followed_by, separated_put, not_separated, no_name_next}
use Rattle.gq_parse.proofs.names.separated_names.Goals as goal

pub loop-names-init : goal.loop-names-init
loop-names-init c = record { after = omega arith; within = c.requires; front = front_start _ (ap (map name_of) c.new-names.ensures.items) }

pub loop-names-preserved : goal.loop-names-preserved
loop-names-preserved c = record {
  after = omega (arith, c.in_ok-one.ensures.within.0, c.in-Some.ensures.within.0, c.loop-names.invariant.after);
  within = c.in-Some.ensures.within.1;
  front = front_put _ _ _ c.in_ok-put_name.ensures.ok c.loop-names.invariant.front (followed_by c.in_ok-one.ensures.found c.in-Some.ensures.found);
}

pub returns-in-None-clause-found : goal.returns-in-None-clause-found
returns-in-None-clause-found c =
    let read = separated_put _ _ _ c.in_ok-put_name.ensures.ok c.loop-names.invariant.front c.in_ok-one.ensures.found c.in-None.ensures.none in
    rw c.in_ok-names-in-None.ensures.ok read

pub returns-in_err-one-clause-none : goal.returns-in_err-one-clause-none
returns-in_err-one-clause-none c =
    let p = err_from_is_err_and c.from_residual.result c.from_residual.ensures.1 in
    rw (p.1, p.2) (λ e. not_separated unique_name c.loop-names.invariant.front (no_name_next (c.in_err-one.ensures.none e)))
