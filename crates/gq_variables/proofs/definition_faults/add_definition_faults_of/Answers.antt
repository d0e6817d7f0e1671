use Rattle.std.proofs.Common.{◌++◌, [], ap, ◌∙◌, map}
use Rattle.std.proofs.lemmas.Result.{on_ok_weaker}
use Rattle.gq_tree.specs.Views.{variable_view}
use Rattle.gq_types.specs.Look.{types_view}
use Rattle.gq_document.specs.Definitions.{operation_view}
use Rattle.gq_variables.specs.Helping.VariablePlaces.{repeated_variables, definition_faults}
use Rattle.gq_variables.specs.Helping.Views.{variables_view}
use Rattle.gq_variables.proofs.definition_faults.add_definition_faults_of.Goals as goal

pub returns : goal.returns
returns c =
    let es = types_view c.args.types.now in
    let o = operation_view c.args.operation.now in
    let old = c.args.faults.now.items in
    let repeated = c.in_ok-_variables.ensures.repeated ∙ ap (λ vs. variables_view vs ++ repeated_variables [] (map variable_view c.deref.result.now)) c.new-repeated.ensures.items
    ∙ ap (λ vs. repeated_variables [] (map variable_view vs)) c.deref.ensures.value in
    on_ok_weaker c.add_definition_faults.result
    (λ is.
    is
    ∙ ap (λ vs. old ++ definition_faults es o.file (map variable_view vs) (variables_view c.deref-3.result.now)) c.deref-2.ensures.value
    ∙ ap (λ vs. old ++ definition_faults es o.file o.variables vs) (ap variables_view c.deref-3.ensures.value ∙ repeated))
    c.add_definition_faults.ensures
