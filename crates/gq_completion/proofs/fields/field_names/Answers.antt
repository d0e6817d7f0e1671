use Rattle.std.proofs.Common.{ap}
use Rattle.std.proofs.lemmas.Result.{IfOk-weaker}
use Rattle.gq_types.specs.Look.{types_view, text_of}
use Rattle.gq_completion.proofs.FieldLemmas.{names_are}
use Rattle.gq_completion.proofs.fields.field_names.Goals as goal

pub returns-in-Some : goal.returns-in-Some
returns-in-Some c =
    IfOk-weaker c.names_on.result _ _
    (λ names is. names_are (types_view c.args.types.now) (text_of c.args.parent) c.in-Some.type_name.now names.items (ap text_of c.in-Some.is) is)
    c.names_on.ensures
