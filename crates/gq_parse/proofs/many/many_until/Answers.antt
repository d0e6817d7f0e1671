use Rattle.std.proofs.Common.{arith, ap, map}
use Rattle.std.proofs.lemmas.Result.{err_from_is_err_and}
use Rattle.gq_parse.proofs.Fronts.{front_start, front_read, front_closed, not_closed}
use Rattle.gq_parse.proofs.many.many_until.Goals as goal

pub loop-end-init : goal.loop-end-init
loop-end-init g c = record { after = omega arith; within = c.requires.within; front = front_start _ (ap (map g.P.Phrase.view) c.new-items.ensures.items) }

pub loop-end-preserved : goal.loop-end-preserved
loop-end-preserved g c = record {
  after = omega (arith, c.in_ok-one.ensures.within.0, c.loop-end.invariant.after);
  within = c.in_ok-one.ensures.within.1;
  front = front_read g.P.Phrase.view _ _ c.in_ok-one.one c.in-Ok.ensures.items c.loop-end.invariant.front c.in_ok-one.ensures.found;
}

pub returns-in-Some-clause-found : goal.returns-in-Some-clause-found
returns-in-Some-clause-found g c =
    let closed = front_closed c.loop-end.invariant.front c.in-Some.ensures.found in
    rw c.in_ok-items.ensures.ok closed

pub returns-in_err-one-clause-none : goal.returns-in_err-one-clause-none
returns-in_err-one-clause-none g c =
    let p = err_from_is_err_and c.from_residual-in_err-one.result c.from_residual-in_err-one.ensures.1 in
    rw (p.1, p.2) (λ e. not_closed c.requires.unique c.requires.apart c.loop-end.invariant.front c.in_default.ensures.none (c.in_err-one.ensures.none e))
