use Rattle.std.proofs.Common.{◌≡◌, subst}
use Rattle.std.proofs.lemmas.Result.{IfOk-weaker}
use Rattle.gq_types.specs.Entries.{Text}
use Rattle.gq_mentions.specs.declared.mention.MentionKind.TheVariants as kind
use Rattle.gq_mentions.specs.Views.{mention_view}
use Rattle.gq_query.specs.Helping.Own.{all_definitions}
use Rattle.gq_query.specs.Schemas.{BySchema}
use Rattle.gq_query.specs.Words.{condition_told, fragment_told}
use Rattle.gq_query.proofs.Defining.{told_by_kind}
use Rattle.gq_query.proofs.hovers.told_of.Goals as goal

pub returns-in-Fragment : goal.returns-in-Fragment
returns-in-Fragment c =
    let ds = all_definitions c.args.known.readings.now in
    IfOk-weaker c.fragment_told.result _ _
    (λ told e known is.
    told_by_kind c.args.known.project.now ds (mention_view c.args.mention.now) kind.Fragment told c.in-Fragment.is
    (subst (λ (t : Text). told ≡ fragment_told ds t) c.as_str.ensures (e is)))
    c.fragment_told.ensures

pub returns-in-Variable : goal.returns-in-Variable
returns-in-Variable c =
    IfOk-weaker c.variable_told.result _ _
    (λ told e known is. told_by_kind c.args.known.project.now (all_definitions c.args.known.readings.now) (mention_view c.args.mention.now) kind.Variable told c.in-Variable.is (e is))
    c.variable_told.ensures

pub returns-in-Field : goal.returns-in-Field
returns-in-Field c =
    IfOk-weaker c.field_told_by_schema.result _ _
    (λ told e known is. told_by_kind c.args.known.project.now (all_definitions c.args.known.readings.now) (mention_view c.args.mention.now) kind.Field told c.in-Field.is (e known is))
    c.field_told_by_schema.ensures

pub returns-in-Condition : goal.returns-in-Condition
returns-in-Condition c =
    let documents = c.args.known.project.now in
    IfOk-weaker c.condition_told_by_schema.result _ _
    (λ told e known is.
    told_by_kind documents (all_definitions c.args.known.readings.now) (mention_view c.args.mention.now) kind.Condition told c.in-Condition.is
    (subst (λ (t : Text). BySchema documents (λ es. condition_told es t) told) c.as_str-in-Condition.ensures (e known)))
    c.condition_told_by_schema.ensures
