use Rattle.std.proofs.lemmas.Result.{IfOk-weaker}
use Rattle.gq_mentions.specs.declared.mention.MentionKind.TheVariants as kind
use Rattle.gq_mentions.specs.Views.{mention_view}
use Rattle.gq_query.specs.Helping.Own.{all_definitions}
use Rattle.gq_query.proofs.Defining.{of_fragment, of_variable, of_kind}
use Rattle.gq_query.proofs.definitions.definition_of.Goals as goal

pub returns-in-Fragment : goal.returns-in-Fragment
returns-in-Fragment c =
    let ds = all_definitions c.args.known.readings.now in
    IfOk-weaker c.declarations_of.result _ _
    (λ found e known is. of_fragment c.args.known.project.now ds (mention_view c.args.mention.now) found.items c.in-Fragment.is (e ds is))
    c.declarations_of.ensures

pub returns-in-Variable : goal.returns-in-Variable
returns-in-Variable c =
    let ds = all_definitions c.args.known.readings.now in
    IfOk-weaker c.declarations_of-in-Variable.result _ _
    (λ found e known is. of_variable c.args.known.project.now ds (mention_view c.args.mention.now) found.items c.in-Variable.is (e ds is))
    c.declarations_of-in-Variable.ensures

pub returns-in-Field : goal.returns-in-Field
returns-in-Field c =
    let ds = all_definitions c.args.known.readings.now in
    IfOk-weaker c.field_definition.result _ _
    (λ found e known is. of_kind c.args.known.project.now ds (mention_view c.args.mention.now) kind.Field found.items c.in-Field.is (e known is))
    c.field_definition.ensures

pub returns-in-Condition : goal.returns-in-Condition
returns-in-Condition c =
    let ds = all_definitions c.args.known.readings.now in
    IfOk-weaker c.condition_definition.result _ _
    (λ found e known is. of_kind c.args.known.project.now ds (mention_view c.args.mention.now) kind.Condition found.items c.in-Condition.is (e ds known))
    c.condition_definition.ensures
