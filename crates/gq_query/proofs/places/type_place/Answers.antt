use Rattle.std.proofs.Common.{◌≡◌, false, Some, None, ◌∙◌, sym}
use Rattle.std.specs.Prelude.{bytes_eq}
use Rattle.std.specs.List.{list_any}
use Rattle.gq_types.specs.BuiltIn.{is_built_in_scalar}
use Rattle.gq_types.specs.Look.{types_view}
use Rattle.gq_query.proofs.Lookups.{type_place_is}
use Rattle.gq_query.proofs.places.type_place.Goals as goal

pub returns-in-Some : goal.returns-in-Some
returns-in-Some c =
    let other : is_built_in_scalar c.args.name.now ≡ false = (let a = c.is_built_in_scalar.ensures in let b = c.if-is_built_in_scalar.false in cc) in
    c.type_place_at.ensures ∙ sym (type_place_is (types_view c.args.types.now) c.args.name.now (Some c.in-Some.number) other (let a = c.type_number.ensures in let b = c.in-Some.is in cc))

pub returns-in-None : goal.returns-in-None
returns-in-None c =
    let other : is_built_in_scalar c.args.name.now ≡ false = (let a = c.is_built_in_scalar.ensures in let b = c.if-is_built_in_scalar.false in cc) in
    sym (type_place_is (types_view c.args.types.now) c.args.name.now None other (let a = c.type_number.ensures in let b = c.in-None.is in cc))
