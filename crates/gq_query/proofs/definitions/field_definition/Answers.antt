use Rattle.std.proofs.lemmas.Result.{IfOk-weaker}
use Rattle.gq_mentions.specs.Views.{mention_view}
use Rattle.gq_query.specs.Helping.Own.{all_definitions}
use Rattle.gq_query.specs.Places.{defined_field_place}
use Rattle.gq_query.proofs.Telling.{exactly_told}
use Rattle.gq_query.proofs.definitions.field_definition.Goals as goal

pub returns : goal.returns
returns c =
    let documents = c.args.known.project.now in
    IfOk-weaker c.at_most_one.result _ _
    (λ found e known is.
    exactly_told documents (λ es. defined_field_place es (all_definitions c.args.known.readings.now) (mention_view c.args.mention.now)) c.in_ok-place.place found.items
    (c.documents_have_one_type_system.ensures.one documents) (c.in_ok-place.ensures known is) e)
    c.at_most_one.ensures
