use Rattle.std.proofs.Common.{ap, sym, ◌∙◌, ◌∷◌, [], map}
use Rattle.std.specs.Option.{option_map}
use Rattle.gq_tree.specs.declared.type_system.TypeSystemDefinition.TheVariants as definition
use Rattle.gq_tree.specs.Views.{input_view, type_system_view}
use Rattle.gq_types.specs.Look.{types_view}
use Rattle.gq_types.proofs.ArgumentNameLemmas.{of_directive, no_directive}
use Rattle.gq_types.proofs.types.Types.directive_arguments.Goals as goal

pub returns-in_err-entry : goal.returns-in_err-entry
returns-in_err-entry c =
    ap (option_map (λ a. map input_view a.all.now)) c.from_residual.ensures ∙ no_directive (types_view c.args.self.now) c.args.name.now c.in_err-entry.ensures

pub arguments_at-requires : goal.arguments_at-requires
arguments_at-requires c =
    of_directive (types_view c.args.self.now) c.args.name.now c.in_ok-entry.entry (type_system_view (definition.Directive c.in_ok-definition.definition.now)) (map input_view c.deref.result.now) c.in_ok-entry.ensures
    c.in_ok-definition.ensures (ap (λ xs. map input_view xs ∷ []) (sym c.deref.ensures.value))
