use Rattle.gq_parse.proofs.MadeParts.{directive_of}
use Rattle.gq_parse.proofs.directives.directive.Goals as goal

pub returns-clause-found : goal.returns-clause-found
returns-clause-found c = directive_of c.in-Some.ensures.found c.in_ok-name.ensures.found c.in_ok-arguments.ensures.found c.covered-span.ensures
