use Rattle.std.proofs.Common.{Some, None, refl}
use Rattle.std.proofs.lemmas.Result.{IfOk-weaker}
use Rattle.gq_types.specs.Look.{types_view}
use Rattle.gq_query.specs.Words.{condition_told}
use Rattle.gq_query.proofs.Telling.{told_by}
use Rattle.gq_query.proofs.schemas.condition_told_by_schema.Goals as goal

pub returns-in-Some : goal.returns-in-Some
returns-in-Some c =
    IfOk-weaker c.condition_told.result _ _
    (λ told e is. told_by c.args.known.project.now (λ es. condition_told es c.args.name.now) (Some (types_view c.in-Some.types.now)) told (c.in-Some.ensures is) e)
    c.condition_told.ensures

pub returns-in-None : goal.returns-in-None
returns-in-None c = λ is. told_by c.args.known.project.now (λ es. condition_told es c.args.name.now) None None (c.in-None.ensures is) refl
