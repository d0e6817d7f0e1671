use Rattle.std.proofs.Common.{◌++◌, [], ap, ◌∙◌, map}
use Rattle.std.proofs.lemmas.Result.{on_ok_weaker}
use Rattle.gq_tree.specs.Views.{variable_view}
use Rattle.gq_types.specs.Look.{types_view}
use Rattle.gq_document.specs.Definitions.{operation_view}
use Rattle.gq_variables.specs.Helping.UsesPlaces.{operation_uses, unless}
use Rattle.gq_variables.specs.Helping.VariablePlaces.{use_texts, repeated_variables}
use Rattle.gq_variables.specs.Helping.Views.{uses_view, variables_view}
use Rattle.gq_variables.proofs.FaultLemmas.{operation_put, all_names}
use Rattle.gq_variables.proofs.faults.add_faults_of_operation.Goals as goal

pub returns : goal.returns
returns c =
    let es = types_view c.args.types.now in
    let o = operation_view c.args.operation.now in
    let own = operation_uses es o ++ uses_view c.args.own.now in
    let behind = uses_view c.args.behind.now.uses.items in
    let known = c.args.are_known in
    let repeated = c.in_ok-variables.ensures.repeated ∙ ap (λ vs. variables_view vs ++ repeated_variables [] (map variable_view c.deref.result.now)) c.new-repeated.ensures.items
    ∙ ap (λ vs. repeated_variables [] (map variable_view vs)) c.deref.ensures.value in
    let own_are = c.in_ok-put_all.ensures
    ∙ ap (λ us. us ++ uses_view c.args.own.now) (c.in_ok-put_uses_of_operation.ensures ∙ ap (λ us. uses_view us ++ operation_uses es o) c.new-uses.ensures.items) in
    on_ok_weaker c.add_use_faults.result
    (λ then. operation_put es o (own ++ behind) (own ++ unless known behind) (uses_view c.deref-8.result.now) (use_texts (uses_view c.deref-5.result.now) ++ c.args.behind.now.names)
    (map variable_view c.deref-2.result.now) (map variable_view c.in_ok-variables.variables.all.now) (map variable_view c.deref-4.result.now) (variables_view c.deref-3.result.now) (variables_view c.deref-7.result.now)
    c.args.faults.now.items c.add_definition_faults.new.faults.items c.add_not_used.new.faults.items c.add_use_faults.new.faults.items
    (ap (map variable_view) c.deref-2.ensures.value)
    (ap variables_view c.deref-3.ensures.value ∙ repeated)
    (ap (map variable_view) c.deref-4.ensures.value)
    (ap (λ us. use_texts us ++ c.args.behind.now.names) (ap uses_view c.deref-5.ensures.value ∙ own_are) ∙ ap (λ texts. use_texts own ++ texts) c.args.behind.now.are_named ∙ all_names own behind)
    (c.in_ok-variables.ensures.all ∙ ap (map variable_view) c.deref.ensures.value)
    (ap variables_view c.deref-7.ensures.value ∙ repeated)
    (ap uses_view c.deref-8.ensures.value ∙ c.in_ok-put_unless_known.ensures ∙ ap (λ us. us ++ unless known (uses_view c.deref-6.result.now)) own_are
    ∙ ap (λ us. own ++ unless known (uses_view us)) c.deref-6.ensures.value)
    c.in_ok-add_definition_faults.ensures c.in_ok-add_not_used.ensures then)
    c.add_use_faults.ensures
