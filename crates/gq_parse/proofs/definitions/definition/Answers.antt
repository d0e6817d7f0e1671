use Rattle.gq_tree.specs.Views.{def_view}
use Rattle.gq_parse.specs.Grammar.{IsFragmentDefinition}
use Rattle.gq_parse.specs.Documents.{IsDefinition, a_fragment}
use Rattle.gq_parse.specs.Helping.Phrases.{Lacks}
use Rattle.gq_parse.specs.Helping.Parts.{IsOperationOrTypeSystem}
use Rattle.gq_parse.proofs.Results.{found_weaker, none_weaker}
use Rattle.gq_parse.proofs.MadeDefinitions.{no_fragment, not_fragment, other_definition}
use Rattle.gq_parse.proofs.definitions.definition.Goals as goal

pub returns-in-Some-clause-found : goal.returns-in-Some-clause-found
returns-in-Some-clause-found c = found_weaker _ def_view IsFragmentDefinition IsDefinition _ _ _ (λ x rest h. a_fragment h) c.fragment.ensures.found

pub returns-in-Some-clause-none : goal.returns-in-Some-clause-none
returns-in-Some-clause-none c = none_weaker _ (Lacks IsFragmentDefinition _) (Lacks IsDefinition _) (λ lacks. no_fragment c.in-Some.ensures.found lacks) c.fragment.ensures.none

pub returns-in-None-clause-found : goal.returns-in-None-clause-found
returns-in-None-clause-found c = found_weaker _ def_view IsOperationOrTypeSystem IsDefinition _ _ _ (λ x rest h. other_definition h) c.operation_or_type_system.ensures.found

pub returns-in-None-clause-none : goal.returns-in-None-clause-none
returns-in-None-clause-none c = none_weaker _ (Lacks IsOperationOrTypeSystem _) (Lacks IsDefinition _) (λ lacks. not_fragment c.in-None.ensures.none lacks) c.operation_or_type_system.ensures.none
