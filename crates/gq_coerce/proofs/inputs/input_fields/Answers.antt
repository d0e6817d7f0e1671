use Rattle.std.proofs.Common.{◌≡◌, ap, sym, ◌∙◌}
use Rattle.std.specs.Prelude.{flat_map}
use Rattle.std.proofs.lemmas.Result.{IfOk-weaker}
use Rattle.gq_types.specs.Look.{types_view}
use Rattle.gq_coerce.specs.Helping.Inputs.{inputs_at}
use Rattle.gq_coerce.specs.Helping.Views.{inputs_view}
use Rattle.gq_coerce.specs.Literals.{input_fields}
use Rattle.gq_coerce.proofs.InputLemmas.{fields_are}
use Rattle.gq_coerce.proofs.inputs.input_fields.Goals as goal

pub returns-in-Some : goal.returns-in-Some
returns-in-Some c =
    let es = types_view c.args.types.now in
    IfOk-weaker c.inputs_of.result _ (λ all. inputs_view all.items ≡ input_fields es c.args.name.now)
    (λ all are. are ∙ ap (λ es. flat_map (inputs_at es) c.joined.result.now) c.entries.ensures ∙ ap (flat_map (inputs_at es)) c.joined.ensures ∙ fields_are es c.args.name.now c.in-Some.number (sym c.type_number.ensures ∙ c.in-Some.is))
    c.inputs_of.ensures
