use Rattle.std.proofs.Common.{subst}
use Rattle.std.proofs.lemmas.Result.{IfOk-weaker}
use Rattle.gq_types.specs.Entries.{Text}
use Rattle.gq_mentions.specs.Views.{mention_view}
use Rattle.gq_query.specs.Places.{type_place}
use Rattle.gq_query.specs.Schemas.{BySchema}
use Rattle.gq_query.proofs.Telling.{exactly_told}
use Rattle.gq_query.proofs.definitions.condition_definition.Goals as goal

pub returns : goal.returns
returns c =
    let documents = c.args.known.project.now in
    let place = c.type_place_by_schema-place.result in
    IfOk-weaker c.at_most_one.result _ _
    (λ found e ds known.
    exactly_told documents (λ es. type_place es (mention_view c.args.mention.now).name.text) place found.items (c.documents_have_one_type_system.ensures.one documents)
    (subst (λ (t : Text). BySchema documents (λ es. type_place es t) place) c.as_str.ensures (c.type_place_by_schema-place.ensures known)) e)
    c.at_most_one.ensures
