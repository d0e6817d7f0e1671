use Rattle.std.proofs.Common.{◌∙◌}
use Rattle.gq_types.specs.Joined.{type_number}
use Rattle.gq_types.specs.Look.{types_view}
use Rattle.gq_types.proofs.RequiredLemmas.{missing_of, missing_nowhere}
use Rattle.gq_types.proofs.types.Types.is_field_missing.Goals as goal

pub returns-in-Some : goal.returns-in-Some
returns-in-Some c =
    let es = types_view c.args.self.now in
    c.is_any_lacking.ensures ∙ missing_of es c.args.given.now c.in-Some.required.now (type_number es c.args.type_name.now) c.in-Some.ensures

pub returns-in-None : goal.returns-in-None
returns-in-None c =
    let es = types_view c.args.self.now in
    missing_nowhere es c.args.given.now (type_number es c.args.type_name.now) c.in-None.ensures
