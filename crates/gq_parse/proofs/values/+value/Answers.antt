use Rattle.std.proofs.Common.{arith, ap, map}
use Rattle.std.proofs.lemmas.Result.{err_from_is_err_and}
use Rattle.gq_tree.specs.Views.{value_view, entry_view}
use Rattle.gq_parse.proofs.Fronts.{front_start, front_put, front_closed, not_closed}
use Rattle.gq_parse.proofs.MadeValues.{lone_list, list_missing, lone_object, object_missing, unique_lone, lone_or_close, argument_or_brace, argument_of, no_argument_colon, no_argument_value}
use Rattle.gq_parse.proofs.UniqueValues.{unique_argument}
use Rattle.gq_parse.proofs.values.+value.Goals as goal

pub list-returns-in_err-items-in-Some-clause-none : goal.list-returns-in_err-items-in-Some-clause-none
list-returns-in_err-items-in-Some-clause-none t c =
    let p = err_from_is_err_and c.from_residual.result c.from_residual.ensures.1 in
    rw (p.1, p.2) (λ e. list_missing c.in-Some.ensures.found (c.in_err-items-in-Some.ensures.none e))

pub list-returns-in_ok-items-in-Some-clause-found : goal.list-returns-in_ok-items-in-Some-clause-found
list-returns-in_ok-items-in-Some-clause-found t c = lone_list _ _ c.in-Some.ensures.found c.in_ok-items-in-Some.ensures.found c.covered-span.ensures

pub object-returns-in_err-fields-in-Some-clause-none : goal.object-returns-in_err-fields-in-Some-clause-none
object-returns-in_err-fields-in-Some-clause-none t c =
    let p = err_from_is_err_and c.from_residual.result c.from_residual.ensures.1 in
    rw (p.1, p.2) (λ e. object_missing c.in-Some.ensures.found (c.in_err-fields-in-Some.ensures.none e))

pub object-returns-in_ok-fields-in-Some-clause-found : goal.object-returns-in_ok-fields-in-Some-clause-found
object-returns-in_ok-fields-in-Some-clause-found t c = lone_object _ _ c.in-Some.ensures.found c.in_ok-fields-in-Some.ensures.found c.covered-span.ensures

pub named_value-returns-in_err-value-in-Some-clause-none : goal.named_value-returns-in_err-value-in-Some-clause-none
named_value-returns-in_err-value-in-Some-clause-none t c =
    let p = err_from_is_err_and c.from_residual-in_err-value-in-Some.result c.from_residual-in_err-value-in-Some.ensures.1 in
    rw (p.1, p.2) (λ e. no_argument_value c.in_ok-name.ensures.found c.in-Some.ensures.found (c.in_err-value-in-Some.ensures.none e))

pub named_value-returns-in_ok-value-in-Some-clause-found : goal.named_value-returns-in_ok-value-in-Some-clause-found
named_value-returns-in_ok-value-in-Some-clause-found t c = argument_of c.in_ok-name.ensures.found c.in-Some.ensures.found c.in_ok-value-in-Some.ensures.found

pub named_value-returns-in-None-clause-none : goal.named_value-returns-in-None-clause-none
named_value-returns-in-None-clause-none t c = λ e. no_argument_colon c.in_ok-name.ensures.found c.in-None.ensures.none

pub values-loop-end-init : goal.values-loop-end-init
values-loop-end-init t c = record { after = omega arith; within = c.requires; front = front_start _ (ap (map value_view) c.new-items.ensures.items) }

pub values-loop-end-preserved : goal.values-loop-end-preserved
values-loop-end-preserved t c = record {
  after = omega (arith, c.in_ok-one.ensures.within.0, c.loop-end.invariant.after);
  within = c.in_ok-one.ensures.within.1;
  front = front_put _ _ _ c.in_ok-put_value.ensures.ok c.loop-end.invariant.front c.in_ok-one.ensures.found;
}

pub values-returns-in-Some-clause-found : goal.values-returns-in-Some-clause-found
values-returns-in-Some-clause-found t c =
    let closed = front_closed c.loop-end.invariant.front c.in-Some.ensures.found in
    rw c.in_ok-items.ensures.ok closed

pub values-returns-in_err-one-clause-none : goal.values-returns-in_err-one-clause-none
values-returns-in_err-one-clause-none t c =
    let p = err_from_is_err_and c.from_residual-in_err-one.result c.from_residual-in_err-one.ensures.1 in
    rw (p.1, p.2) (λ e. not_closed (unique_lone _) (lone_or_close _) c.loop-end.invariant.front c.in_default.ensures.none (c.in_err-one.ensures.none e))

pub object_fields-loop-end-init : goal.object_fields-loop-end-init
object_fields-loop-end-init t c = record { after = omega arith; within = c.requires; front = front_start _ (ap (map entry_view) c.new-fields.ensures.items) }

pub object_fields-loop-end-preserved : goal.object_fields-loop-end-preserved
object_fields-loop-end-preserved t c = record {
  after = omega (arith, c.in_ok-name.ensures.within.0, c.loop-end.invariant.after);
  within = c.in_ok-name.ensures.within.1;
  front = front_put _ _ _ c.in_ok-put_field.ensures.ok c.loop-end.invariant.front c.in_ok-name.ensures.found;
}

pub object_fields-returns-in-Some-clause-found : goal.object_fields-returns-in-Some-clause-found
object_fields-returns-in-Some-clause-found t c =
    let closed = front_closed c.loop-end.invariant.front c.in-Some.ensures.found in
    rw c.in_ok-fields.ensures.ok closed

pub object_fields-returns-in_err-name-clause-none : goal.object_fields-returns-in_err-name-clause-none
object_fields-returns-in_err-name-clause-none t c =
    let p = err_from_is_err_and c.from_residual-in_err-name.result c.from_residual-in_err-name.ensures.1 in
    rw (p.1, p.2) (λ e. not_closed (unique_argument _) (argument_or_brace _) c.loop-end.invariant.front c.in_default.ensures.none (c.in_err-name.ensures.none e))
