use Rattle.std.proofs.Common.{List, ap, map, Vec, Global}
use Rattle.gq_text.specs.declared.place.Span.{Span}
use Rattle.gq_lex.specs.declared.token.Kind.TheVariants as kind
use Rattle.gq_tree.specs.declared.tree.Name.{Name}
use Rattle.gq_tree.specs.Plain.{NameOf}
use Rattle.gq_tree.specs.Views.{name_of}
use Rattle.gq_parse.specs.Grammar.{IsName}
use Rattle.gq_parse.specs.TypeSystem.{Delimited, IsImplements}
use Rattle.gq_parse.specs.Helping.Phrases.{Lacks}
use Rattle.gq_parse.proofs.Results.{found_weaker, none_weaker}
use Rattle.gq_parse.proofs.MadeNames.{implements_of, implements_none, implements_missing}
use Rattle.gq_parse.proofs.names.implements.Goals as goal

abbrev names : Vec Name Global → List (NameOf Span)
names v = map name_of v.items

pub returns-in-Some-clause-found : goal.returns-in-Some-clause-found
returns-in-Some-clause-found c = found_weaker _ names (Delimited IsName kind.Ampersand) IsImplements _ _ _ (λ x rest h. implements_of c.in-Some.ensures.found h) c.led_names.ensures.found

pub returns-in-Some-clause-none : goal.returns-in-Some-clause-none
returns-in-Some-clause-none c = none_weaker _ (Lacks (Delimited IsName kind.Ampersand) _) (Lacks IsImplements _) (λ lacks. implements_missing c.in-Some.ensures.found lacks) c.led_names.ensures.none

pub returns-in-None-clause-found : goal.returns-in-None-clause-found
returns-in-None-clause-found c = implements_none _ (ap (map name_of) c.new.ensures.items) c.in-None.ensures.none
