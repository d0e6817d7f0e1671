use Rattle.std.proofs.Common.{ap, ◌∙◌}
use Rattle.std.proofs.lemmas.Result.{IfOk-weaker}
use Rattle.gq_type_system.specs.Helping.EndlessInputsPlaces.{row_items, MarksNonNull}
use Rattle.gq_types.specs.Look.{types_view}
use Rattle.gq_type_system.proofs.RequiredLemmas.{required_in_range, marks_non_null}
use Rattle.gq_type_system.proofs.required_inputs.marked_non_null.Goals as goal

pub on_cycles-requires : goal.on_cycles-requires
on_cycles-requires c =
    record {
      rows = required_in_range (types_view c.args.types.now) c.deref.result.now (ap row_items c.deref.ensures.value ∙ c.in_ok-rows.ensures);
    }

pub returns : goal.returns
returns c =
    IfOk-weaker c.on_cycles.result _ (λ marks. MarksNonNull (types_view c.args.types.now) marks.items)
    (λ marks exact. marks_non_null (types_view c.args.types.now) c.deref.result.now (ap row_items c.deref.ensures.value ∙ c.in_ok-rows.ensures) marks.items exact)
    c.on_cycles.ensures.exact
