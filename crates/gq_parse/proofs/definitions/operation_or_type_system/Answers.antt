use Rattle.std.proofs.Common.{inl, inr}
use Rattle.gq_tree.specs.Views.{def_view}
use Rattle.gq_parse.specs.Grammar.{IsOperationDefinition}
use Rattle.gq_parse.specs.Helping.Phrases.{Lacks}
use Rattle.gq_parse.specs.Helping.Parts.{IsTypeSystem, IsOperationOrTypeSystem}
use Rattle.gq_parse.proofs.Results.{found_weaker, none_weaker}
use Rattle.gq_parse.proofs.MadeDefinitions.{no_operation}
use Rattle.gq_parse.proofs.definitions.operation_or_type_system.Goals as goal

pub returns-then-begins_operation-clause-found : goal.returns-then-begins_operation-clause-found
returns-then-begins_operation-clause-found c = found_weaker _ def_view IsOperationDefinition IsOperationOrTypeSystem _ _ _ (λ x rest h. inl h) c.operation.ensures.found

pub returns-then-begins_operation-clause-none : goal.returns-then-begins_operation-clause-none
returns-then-begins_operation-clause-none c = none_weaker _ (Lacks IsOperationDefinition _) (Lacks IsOperationOrTypeSystem _) (λ lacks. no_operation (c.begins_operation.ensures.yes c.if-begins_operation.true) lacks) c.operation.ensures.none

pub returns-else-begins_operation-clause-found : goal.returns-else-begins_operation-clause-found
returns-else-begins_operation-clause-found c = found_weaker _ def_view IsTypeSystem IsOperationOrTypeSystem _ _ _ (λ x rest h. inr h) c.type_system.ensures.found

pub returns-else-begins_operation-clause-none : goal.returns-else-begins_operation-clause-none
returns-else-begins_operation-clause-none c = none_weaker _ (Lacks IsTypeSystem _) (Lacks IsOperationOrTypeSystem _) (λ lacks. no_operation lacks (c.begins_operation.ensures.no c.if-begins_operation.false)) c.type_system.ensures.none
