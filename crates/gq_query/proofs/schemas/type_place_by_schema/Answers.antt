use Rattle.std.proofs.Common.{Some, None, refl}
use Rattle.gq_types.specs.Look.{types_view}
use Rattle.gq_query.specs.Places.{type_place}
use Rattle.gq_query.proofs.Telling.{told_by}
use Rattle.gq_query.proofs.schemas.type_place_by_schema.Goals as goal

pub returns-in-Some : goal.returns-in-Some
returns-in-Some c = λ is. told_by c.args.known.project.now (λ es. type_place es c.args.name.now) (Some (types_view c.in-Some.types.now)) c.type_place.result (c.in-Some.ensures is) c.type_place.ensures

pub returns-in-None : goal.returns-in-None
returns-in-None c = λ is. told_by c.args.known.project.now (λ es. type_place es c.args.name.now) None None (c.in-None.ensures is) refl
