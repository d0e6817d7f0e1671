use Rattle.std.specs.Option.{option_map}
use Rattle.gq_tree.specs.Views.{literal_view, type_system_view}
use Rattle.gq_parse.specs.Helping.From.{from}
use Rattle.gq_parse.specs.Helping.Phrases.{Lacks}
use Rattle.std.proofs.Common.{inl, inr}
use Rattle.gq_parse.specs.Helping.Parts.{IsSchemaDescribed, IsDirectiveOrType, IsDescribed}
use Rattle.gq_parse.proofs.Results.{found_weaker, none_weaker}
use Rattle.gq_parse.proofs.MadeTypeSystem.{schema_word_defines, no_schema_defined}
use Rattle.gq_parse.proofs.type_system.described.Goals as goal

pub returns-in-Some-clause-found : goal.returns-in-Some-clause-found
returns-in-Some-clause-found c = found_weaker _ type_system_view (IsSchemaDescribed (from c.args.tokens.now c.args.first) (option_map literal_view c.args.description)) (IsDescribed (from c.args.tokens.now c.args.first) (option_map literal_view c.args.description)) _ _ _ (λ x rest h. inl h) c.schema_definition.ensures.found

pub returns-in-Some-clause-none : goal.returns-in-Some-clause-none
returns-in-Some-clause-none c = none_weaker _ (Lacks (IsSchemaDescribed (from c.args.tokens.now c.args.first) (option_map literal_view c.args.description)) _) (Lacks (IsDescribed (from c.args.tokens.now c.args.first) (option_map literal_view c.args.description)) _) (λ lacks. schema_word_defines c.in-Some.ensures.found lacks) c.schema_definition.ensures.none

pub returns-in-None-clause-found : goal.returns-in-None-clause-found
returns-in-None-clause-found c = found_weaker _ type_system_view (IsDirectiveOrType (from c.args.tokens.now c.args.first) (option_map literal_view c.args.description)) (IsDescribed (from c.args.tokens.now c.args.first) (option_map literal_view c.args.description)) _ _ _ (λ x rest h. inr h) c.directive_or_type.ensures.found

pub returns-in-None-clause-none : goal.returns-in-None-clause-none
returns-in-None-clause-none c = none_weaker _ (Lacks (IsDirectiveOrType (from c.args.tokens.now c.args.first) (option_map literal_view c.args.description)) _) (Lacks (IsDescribed (from c.args.tokens.now c.args.first) (option_map literal_view c.args.description)) _) (λ lacks. no_schema_defined c.in-None.ensures.none lacks) c.directive_or_type.ensures.none
