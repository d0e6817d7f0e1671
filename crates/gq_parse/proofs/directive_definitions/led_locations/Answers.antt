use Rattle.std.proofs.Common.{List, Vec, Global}
use Rattle.gq_lex.specs.declared.token.Kind.TheVariants as kind
use Rattle.gq_tree.specs.declared.type_system.DirectiveLocation.{DirectiveLocation}
use Rattle.gq_parse.specs.TypeSystem.{Separated, Delimited, plain, IsLocation}
use Rattle.gq_parse.specs.Helping.Phrases.{Lacks}
use Rattle.gq_parse.proofs.Results.{found_weaker, none_weaker}
use Rattle.gq_parse.proofs.MadeNames.{led_by, not_led_behind, not_led}
use Rattle.gq_parse.proofs.directive_definitions.led_locations.Goals as goal

abbrev locations : Vec DirectiveLocation Global → List DirectiveLocation
locations v = v.items

pub returns-in-Some-clause-found : goal.returns-in-Some-clause-found
returns-in-Some-clause-found c = found_weaker _ locations (Separated IsLocation kind.Pipe) (Delimited IsLocation kind.Pipe) _ _ _ (λ x rest h. led_by c.in-Some.ensures.found h) c.separated_locations.ensures.found

pub returns-in-Some-clause-none : goal.returns-in-Some-clause-none
returns-in-Some-clause-none c = none_weaker _ (Lacks (Separated IsLocation kind.Pipe) _) (Lacks (Delimited IsLocation kind.Pipe) _) (λ lacks. not_led_behind c.in-Some.ensures.found lacks) c.separated_locations.ensures.none

pub returns-in-None-clause-found : goal.returns-in-None-clause-found
returns-in-None-clause-found c = found_weaker _ locations (Separated IsLocation kind.Pipe) (Delimited IsLocation kind.Pipe) _ _ _ (λ x rest h. plain c.in-None.ensures.none h) c.separated_locations-in-None.ensures.found

pub returns-in-None-clause-none : goal.returns-in-None-clause-none
returns-in-None-clause-none c = none_weaker _ (Lacks (Separated IsLocation kind.Pipe) _) (Lacks (Delimited IsLocation kind.Pipe) _) (λ lacks. not_led c.in-None.ensures.none lacks) c.separated_locations-in-None.ensures.none
