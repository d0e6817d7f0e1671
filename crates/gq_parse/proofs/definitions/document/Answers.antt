use Rattle.std.proofs.Common.{arith, refl, ap, map}
use Rattle.std.proofs.lemmas.Result.{err_from_is_err_and}
use Rattle.gq_tree.specs.Views.{def_view}
use Rattle.gq_parse.proofs.Fronts.{front_start, front_put}
use Rattle.gq_parse.proofs.MadeDefinitions.{definitions_end, behind_definitions, from_end, from_there}
use Rattle.gq_parse.proofs.definitions.document.Goals as goal

pub loop-at-init : goal.loop-at-init
loop-at-init c = record { within = omega arith; read = front_start _ (ap (map def_view) c.new-definitions.ensures.items) }

pub returns-in_err-one-clause-none : goal.returns-in_err-one-clause-none
returns-in_err-one-clause-none c =
    let p = err_from_is_err_and c.from_residual.result c.from_residual.ensures.1 in
    rw (p.1, p.2) (λ e ds h. behind_definitions c.loop-at.invariant.read (from_there _ _ c.loop-at-test.true) (c.in_err-one.ensures.none e) refl h)

pub loop-at-preserved : goal.loop-at-preserved
loop-at-preserved c = record { within = c.in_ok-one.ensures.within.1; read = front_put _ _ _ c.in_ok-put_definition.ensures.ok c.loop-at.invariant.read c.in_ok-one.ensures.found }

pub returns-clause-found : goal.returns-clause-found
returns-clause-found c =
    let read = definitions_end c.loop-at.invariant.read (from_end _ _ c.loop-at-test.false) in
    rw c.shrink_to_fit.ensures.items read
