use Rattle.std.proofs.Common.{List, map, Vec, Global}
use Rattle.gq_text.specs.declared.place.Span.{Span}
use Rattle.gq_tree.specs.declared.tree.Name.{Name}
use Rattle.gq_tree.specs.Plain.{NameOf}
use Rattle.gq_tree.specs.Views.{name_of}
use Rattle.gq_parse.specs.Grammar.{IsName}
use Rattle.gq_parse.specs.TypeSystem.{Separated, Delimited, plain}
use Rattle.gq_parse.specs.Helping.Phrases.{Lacks}
use Rattle.gq_parse.proofs.Results.{found_weaker, none_weaker}
use Rattle.gq_parse.proofs.MadeNames.{led_by, not_led_behind, not_led}
use Rattle.gq_parse.proofs.names.led_names.Goals as goal

abbrev names : Vec Name Global → List (NameOf Span)
names v = map name_of v.items

pub returns-in-Some-clause-found : goal.returns-in-Some-clause-found
returns-in-Some-clause-found c = found_weaker _ names (Separated IsName c.args.between) (Delimited IsName c.args.between) _ _ _ (λ x rest h. led_by c.in-Some.ensures.found h) c.separated_names.ensures.found

pub returns-in-Some-clause-none : goal.returns-in-Some-clause-none
returns-in-Some-clause-none c = none_weaker _ (Lacks (Separated IsName c.args.between) _) (Lacks (Delimited IsName c.args.between) _) (λ lacks. not_led_behind c.in-Some.ensures.found lacks) c.separated_names.ensures.none

pub returns-in-None-clause-found : goal.returns-in-None-clause-found
returns-in-None-clause-found c = found_weaker _ names (Separated IsName c.args.between) (Delimited IsName c.args.between) _ _ _ (λ x rest h. plain c.in-None.ensures.none h) c.separated_names-in-None.ensures.found

pub returns-in-None-clause-none : goal.returns-in-None-clause-none
returns-in-None-clause-none c = none_weaker _ (Lacks (Separated IsName c.args.between) _) (Lacks (Delimited IsName c.args.between) _) (λ lacks. not_led c.in-None.ensures.none lacks) c.separated_names-in-None.ensures.none
