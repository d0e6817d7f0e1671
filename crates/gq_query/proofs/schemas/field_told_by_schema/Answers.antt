use Rattle.std.proofs.Common.{Some, None, refl}
use Rattle.std.proofs.lemmas.Result.{IfOk-weaker}
use Rattle.gq_types.specs.Look.{types_view}
use Rattle.gq_mentions.specs.Views.{mention_view}
use Rattle.gq_query.specs.Helping.Own.{all_definitions}
use Rattle.gq_query.specs.Words.{field_told}
use Rattle.gq_query.proofs.Telling.{told_by}
use Rattle.gq_query.proofs.schemas.field_told_by_schema.Goals as goal

pub returns-in-Some : goal.returns-in-Some
returns-in-Some c =
    IfOk-weaker c.field_told.result _ _
    (λ told e known is. told_by c.args.known.project.now (λ es. field_told es (all_definitions c.args.known.readings.now) (mention_view c.args.mention.now)) (Some (types_view c.in-Some.types.now)) told (c.in-Some.ensures known) (e is))
    c.field_told.ensures

pub returns-in-None : goal.returns-in-None
returns-in-None c = λ known is. told_by c.args.known.project.now (λ es. field_told es (all_definitions c.args.known.readings.now) (mention_view c.args.mention.now)) None None (c.in-None.ensures known) refl
