use Rattle.std.proofs.Common.{arith, ap, map}
use Rattle.std.proofs.lemmas.Result.{err_from_is_err_and}
use Rattle.gq_tree.specs.Views.{directive_view}
use Rattle.gq_parse.proofs.Fronts.{front_start, front_put, some_at, none_at}
use Rattle.gq_parse.proofs.MadeParts.{front_directives, no_directives}
use Rattle.gq_parse.proofs.directives.directives.Goals as goal

pub loop-alloc-init : goal.loop-alloc-init
loop-alloc-init c = record { after = omega arith; within = c.requires; front = front_start _ (ap (map directive_view) c.new-directives.ensures.items) }

pub loop-alloc-preserved : goal.loop-alloc-preserved
loop-alloc-preserved c = record {
  after = omega (arith, c.in_ok-one.ensures.within.0, c.loop-alloc.invariant.after);
  within = c.in_ok-one.ensures.within.1;
  front = front_put _ _ _ c.in_ok-put_directive.ensures.ok c.loop-alloc.invariant.front c.in_ok-one.ensures.found;
}

pub returns-in_err-one-clause-none : goal.returns-in_err-one-clause-none
returns-in_err-one-clause-none c =
    let p = err_from_is_err_and c.from_residual.result c.from_residual.ensures.1 in
    let next = some_at _ _ c.is_some.ensures c.loop-alloc-test.true c.punctuator.ensures.found in
    rw (p.1, p.2) (λ e. no_directives c.loop-alloc.invariant.front next.1 (c.in_err-one.ensures.none e))

pub returns-clause-found : goal.returns-clause-found
returns-clause-found c =
    let read = front_directives c.loop-alloc.invariant.front (none_at _ _ c.is_some.ensures c.loop-alloc-test.false c.punctuator.ensures.none) in
    rw c.in_ok-directives.ensures.ok read
