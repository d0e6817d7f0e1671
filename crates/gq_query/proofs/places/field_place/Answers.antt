use Rattle.std.proofs.Common.{◌≡◌, false, ◌∙◌, ap, sym}
use Rattle.std.specs.Prelude.{bytes_eq}
use Rattle.gq_types.specs.Look.{types_view}
use Rattle.gq_document.specs.Selections.{typename}
use Rattle.gq_query.specs.Helping.Gathered.{first_of, field_places_at}
use Rattle.gq_query.proofs.Lookups.{field_place_found, field_place_none}
use Rattle.gq_query.proofs.places.field_place.Goals as goal

pub returns-in-Some : goal.returns-in-Some
returns-in-Some c =
    let es = types_view c.args.types.now in
    let text = c.args.name.now in
    let other : bytes_eq text typename ≡ false = (let a = c.eq.ensures in let b = c.if-eq.false in cc) in
    c.field_place_among.ensures
    ∙ ap (first_of (field_places_at es text)) c.joined.ensures
    ∙ sym (field_place_found es c.args.type_name.now text c.in-Some.number other (let a = c.type_number.ensures in let b = c.in-Some.is in cc))

pub returns-in-None : goal.returns-in-None
returns-in-None c =
    let other : bytes_eq c.args.name.now typename ≡ false = (let a = c.eq.ensures in let b = c.if-eq.false in cc) in
    sym (field_place_none (types_view c.args.types.now) c.args.type_name.now c.args.name.now other (let a = c.type_number.ensures in let b = c.in-None.is in cc))
