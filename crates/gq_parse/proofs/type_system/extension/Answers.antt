use Rattle.gq_tree.specs.Views.{type_system_view}
use Rattle.gq_parse.specs.Helping.From.{from}
use Rattle.gq_parse.specs.Helping.Phrases.{Lacks}
use Rattle.std.proofs.Common.{inl, inr}
use Rattle.gq_parse.specs.Helping.Parts.{IsSchemaExtended, IsTypeExtended, IsExtended}
use Rattle.gq_parse.proofs.Results.{found_weaker, none_weaker}
use Rattle.gq_parse.proofs.MadeTypeSystem.{schema_word_extends, another_word_extends}
use Rattle.gq_parse.proofs.type_system.extension.Goals as goal

pub returns-in-Some-clause-found : goal.returns-in-Some-clause-found
returns-in-Some-clause-found c = found_weaker _ type_system_view (IsSchemaExtended (from c.args.tokens.now c.args.first)) (IsExtended (from c.args.tokens.now c.args.first)) _ _ _ (λ x rest h. inl h) c.schema_extension.ensures.found

pub returns-in-Some-clause-none : goal.returns-in-Some-clause-none
returns-in-Some-clause-none c = none_weaker _ (Lacks (IsSchemaExtended (from c.args.tokens.now c.args.first)) _) (Lacks (IsExtended (from c.args.tokens.now c.args.first)) _) (λ lacks. schema_word_extends c.in-Some.ensures.found lacks) c.schema_extension.ensures.none

pub returns-in-None-clause-found : goal.returns-in-None-clause-found
returns-in-None-clause-found c = found_weaker _ type_system_view (IsTypeExtended (from c.args.tokens.now c.args.first)) (IsExtended (from c.args.tokens.now c.args.first)) _ _ _ (λ x rest h. inr h) c.type_extension.ensures.found

pub returns-in-None-clause-none : goal.returns-in-None-clause-none
returns-in-None-clause-none c = none_weaker _ (Lacks (IsTypeExtended (from c.args.tokens.now c.args.first)) _) (Lacks (IsExtended (from c.args.tokens.now c.args.first)) _) (λ lacks. another_word_extends c.in-None.ensures.none lacks) c.type_extension.ensures.none
