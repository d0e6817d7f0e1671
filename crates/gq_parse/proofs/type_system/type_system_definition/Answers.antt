use Rattle.std.specs.Option.{option_map}
use Rattle.gq_tree.specs.Views.{literal_view, type_system_view}
use Rattle.gq_parse.specs.Helping.From.{from}
use Rattle.gq_parse.specs.Helping.Phrases.{Lacks}
use Rattle.gq_parse.specs.TypeSystem.{IsTypeSystemDefinition}
use Rattle.gq_parse.specs.Helping.Parts.{IsExtended, IsDescribed}
use Rattle.gq_parse.proofs.Results.{found_weaker, none_weaker}
use Rattle.gq_parse.proofs.MadeTypeSystem.{extends, extends_only, defines, defines_only}
use Rattle.gq_parse.proofs.type_system.type_system_definition.Goals as goal

pub returns-in-Some-clause-found : goal.returns-in-Some-clause-found
returns-in-Some-clause-found c = found_weaker _ type_system_view (IsExtended (from c.args.tokens.now c.args.at)) IsTypeSystemDefinition _ _ _ (λ x rest h. extends c.in-Some.ensures.found h) c.extension.ensures.found

pub returns-in-Some-clause-none : goal.returns-in-Some-clause-none
returns-in-Some-clause-none c = none_weaker _ (Lacks (IsExtended (from c.args.tokens.now c.args.at)) _) (Lacks IsTypeSystemDefinition _) (λ lacks. extends_only c.in-Some.ensures.found lacks) c.extension.ensures.none

pub returns-in_ok-description-in-None-clause-found : goal.returns-in_ok-description-in-None-clause-found
returns-in_ok-description-in-None-clause-found c = found_weaker _ type_system_view (IsDescribed (from c.args.tokens.now c.args.at) (option_map literal_view c.in_ok-description-in-None.description)) IsTypeSystemDefinition _ _ _ (λ x rest h. defines c.in_ok-description-in-None.ensures.found h) c.described.ensures.found

pub returns-in_ok-description-in-None-clause-none : goal.returns-in_ok-description-in-None-clause-none
returns-in_ok-description-in-None-clause-none c = none_weaker _ (Lacks (IsDescribed (from c.args.tokens.now c.args.at) (option_map literal_view c.in_ok-description-in-None.description)) _) (Lacks IsTypeSystemDefinition _) (λ lacks. defines_only c.in-None.ensures.none c.in_ok-description-in-None.ensures.found lacks) c.described.ensures.none
