use Rattle.std.proofs.Common.{sym, subst}
use Rattle.std.proofs.lemmas.Result.{on_ok_weaker}
use Rattle.gq_type_system.specs.EndlessInputs.{IsEndlessInput}
use Rattle.gq_fault.specs.Adds.{AddsExactly}
use Rattle.gq_type_system.specs.Helping.EndlessInputsPlaces.{MarksNonNull, MarksByDefault}
use Rattle.gq_types.specs.Look.{types_view}
use Rattle.gq_type_system.proofs.EndlessInputLemmas.{puts_endless}
use Rattle.gq_type_system.proofs.endless_inputs.add_endless_inputs.Goals as goal

pub returns : goal.returns
returns c =
    let es = types_view c.args.types.now in
    let non_null : MarksNonNull es c.deref.result.now = subst (MarksNonNull es) (sym c.deref.ensures.value) c.in_ok-by_non_null.ensures in
    let default : MarksByDefault es c.deref-2.result.now = subst (MarksByDefault es) (sym c.deref-2.ensures.value) c.in_ok-by_default.ensures in
    on_ok_weaker c.add_marked.result
    (λ is. subst (λ new. AddsExactly (IsEndlessInput es) c.args.faults.now.items new) (sym is) (puts_endless es c.deref.result.now c.deref-2.result.now non_null default c.args.faults.now.items))
    c.add_marked.ensures
