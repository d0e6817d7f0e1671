use Rattle.std.proofs.Common.{◌≡◌, ap, sym, ◌∙◌, map}
use Rattle.std.specs.Option.{option_map}
use Rattle.gq_tree.specs.Views.{variable_view}
use Rattle.gq_types.specs.Look.{types_view, text_of}
use Rattle.gq_document.specs.Definitions.{operation_view}
use Rattle.gq_table.specs.Views.{entries_view, rows_view}
use Rattle.gq_coerce.specs.Variables.{coerced_variables}
use Rattle.gq_executor.specs.Operations.{no_operation, bad_variables}
use Rattle.gq_document.specs.Executable.{executable_view}
use Rattle.gq_response.specs.Views.{response_view}
use Rattle.gq_executor.proofs.Roots.{to_response}
use Rattle.gq_executor.proofs.execute.respond.Goals as goal

pub respond_with-requires-clause-ranked : goal.respond_with-requires-clause-ranked
respond_with-requires-clause-ranked c = c.requires (operation_view c.in-Some.operation.now) (sym c.operation.ensures ∙ ap (option_map (λ o. operation_view o.now)) c.in-Some.is)

pub returns-in-None : goal.returns-in-None
returns-in-None c = no_operation (sym c.operation.ensures ∙ ap (option_map (λ o. operation_view o.now)) c.in-None.is)

pub returns-in-None-2 : goal.returns-in-None-2
returns-in-None-2 c =
    bad_variables {o = operation_view c.in-Some.operation.now} (sym c.operation.ensures ∙ ap (option_map (λ o. operation_view o.now)) c.in-Some.is)
    (sym (c.in_ok-variables-in-Some.ensures ∙ ap (λ es. coerced_variables es (map variable_view c.deref.result.now) (entries_view c.args.raw.now)) c.of-coercion.ensures
    ∙ ap (λ vs. coerced_variables (types_view c.args.x.types.now) (map variable_view vs) (entries_view c.args.raw.now)) c.deref.ensures.value) ∙ ap (option_map (λ v. entries_view v)) c.in-None-2.is)

pub returns-in_ok-response-in-Some-2 : goal.returns-in_ok-response-in-Some-2
returns-in_ok-response-in-Some-2 c =
    to_response (executable_view c.args.x) (rows_view c.args.table.now) (text_of c.args.name) (entries_view c.args.raw.now) (operation_view c.in-Some.operation.now) (entries_view c.in-Some-2.variables) (response_view c.in_ok-response-in-Some-2.response)
    (sym c.operation.ensures ∙ ap (option_map (λ o. operation_view o.now)) c.in-Some.is)
    (sym (c.in_ok-variables-in-Some.ensures ∙ ap (λ es. coerced_variables es (map variable_view c.deref.result.now) (entries_view c.args.raw.now)) c.of-coercion.ensures
    ∙ ap (λ vs. coerced_variables (types_view c.args.x.types.now) (map variable_view vs) (entries_view c.args.raw.now)) c.deref.ensures.value) ∙ ap (option_map (λ v. entries_view v)) c.in-Some-2.is)
    c.in_ok-response-in-Some-2.ensures
