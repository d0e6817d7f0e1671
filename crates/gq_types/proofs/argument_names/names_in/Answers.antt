use Rattle.std.proofs.Common.{◌∷◌, [], map, ap, sym, ◌∙◌, subst}
use Rattle.std.proofs.lemmas.Result.{IfOk-weaker}
use Rattle.gq_tree.specs.Views.{input_view, type_system_view}
use Rattle.gq_types.specs.Helping.Index.{argument_lists, AreNamesOfEach}
use Rattle.gq_types.specs.Joined.{body_in, fields_in_body}
use Rattle.gq_types.proofs.argument_names.names_in.Goals as goal

pub returns-in-Type : goal.returns-in-Type
returns-in-Type c =
    let fields = c.fields_of.ensures ∙ ap (λ d. fields_in_body (body_in (type_system_view d))) c.in-Type.is in
    IfOk-weaker c.names_of_fields.result _ _
    (λ names h. subst (λ d. AreNamesOfEach (argument_lists (type_system_view d)) names.items) (sym c.in-Type.is) (subst (λ fs. AreNamesOfEach (map (λ f. f.arguments) fs) names.items) fields h)) c.names_of_fields.ensures

pub returns-in-Directive : goal.returns-in-Directive
returns-in-Directive c = IfOk-weaker c.names_of_directive.result _ _
    (λ names h. subst (λ d. AreNamesOfEach (argument_lists (type_system_view d)) names.items) (sym c.in-Directive.is) (subst (λ xs. AreNamesOfEach (map input_view xs ∷ []) names.items) c.deref.ensures.value h)) c.names_of_directive.ensures
