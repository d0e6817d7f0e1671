use Rattle.std.proofs.Common.{ap, sym, ◌∙◌}
use Rattle.std.specs.Prelude.{is_none}
use Rattle.gq_types.specs.Look.{types_view, input_of}
use Rattle.gq_coerce.proofs.RawReadings.{unknown_is}
use Rattle.gq_coerce.proofs.raw.is_unknown.Goals as goal

pub returns-in-Some : goal.returns-in-Some
returns-in-Some c =
    ap (λ o. is_none (input_of o)) (sym c.in-Some.is) ∙ unknown_is (types_view c.args.types.now) c.args.name.now c.args.entry.now.name c.as_str.result.now (input_of c.input_field.result) c.input_field.ensures c.as_str.ensures

pub returns-in-None : goal.returns-in-None
returns-in-None c =
    ap (λ o. is_none (input_of o)) (sym c.in-None.is) ∙ unknown_is (types_view c.args.types.now) c.args.name.now c.args.entry.now.name c.as_str.result.now (input_of c.input_field.result) c.input_field.ensures c.as_str.ensures
