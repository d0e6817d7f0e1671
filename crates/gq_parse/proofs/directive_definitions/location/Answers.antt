use Rattle.std.proofs.Common.{sym}
use Rattle.gq_parse.proofs.MadeDirectiveDefinitions.{location_of}
use Rattle.gq_parse.proofs.directive_definitions.location.Goals as goal

pub returns-clause-found : goal.returns-clause-found
returns-clause-found c = location_of c.in_ok-end.ensures.found c.in_ok-token.ensures.cases (sym c.in_ok-location.ensures)
