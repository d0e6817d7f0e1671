use Rattle.std.proofs.Common.{Option, ◌∙◌, ap}
use Rattle.std.specs.Option.{option_map}
use Rattle.std.proofs.lemmas.Result.{IfOk-weaker}
use Rattle.gq_text.specs.declared.place.Span.{Span}
use Rattle.gq_tree.specs.Plain.{VariableOf}
use Rattle.gq_query.specs.Helping.Own.{all_definitions}
use Rattle.gq_query.specs.Words.{variable_words}
use Rattle.gq_query.proofs.variables.told_among.Goals as goal

pub returns-in-Some : goal.returns-in-Some
returns-in-Some c =
    IfOk-weaker c.told_at.result _ _
    (λ told e is. e is ∙ ap (λ (o : Option (VariableOf Span)). option_map (λ v. variable_words c.args.name.now v.type_ref) o) (c.in-Some.ensures (all_definitions c.args.readings.now) is))
    c.told_at.ensures

pub returns-in-None : goal.returns-in-None
returns-in-None c = λ is.
    ap (λ (o : Option (VariableOf Span)). option_map (λ v. variable_words c.args.name.now v.type_ref) o) (c.in-None.ensures (all_definitions c.args.readings.now) is)
