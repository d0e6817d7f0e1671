use Rattle.std.proofs.lemmas.Result.{err_from_is_err_and}
use Rattle.std.proofs.Common.{subst, sym}
use Rattle.gq_tree.specs.declared.type_system.TypeSystemDefinition.{TypeSystemDefinition}
use Rattle.gq_tree.specs.Plain.{type_system}
use Rattle.gq_tree.specs.Views.{type_system_view}
use Rattle.gq_parse.specs.Helping.From.{from}
use Rattle.gq_parse.specs.Helping.Parts.{IsTypeSystem, of_type_system}
use Rattle.gq_parse.proofs.MadeDefinitions.{no_type_system}
use Rattle.gq_parse.proofs.definitions.type_system.Goals as goal

pub returns-in_err-definition-clause-none : goal.returns-in_err-definition-clause-none
returns-in_err-definition-clause-none c =
    let p = err_from_is_err_and c.from_residual.result c.from_residual.ensures.1 in
    rw (p.1, p.2) (λ e. no_type_system (c.in_err-definition.ensures.none e))

pub returns-clause-found : goal.returns-clause-found
returns-clause-found c =
    subst (λ (d : TypeSystemDefinition). IsTypeSystem (type_system (type_system_view d)) (from c.args.tokens.now c.args.at) (from c.args.tokens.now c.in_ok-definition.end))
    (sym c.in_ok-definition-2.ensures.ok) (of_type_system c.in_ok-definition.ensures.found)
