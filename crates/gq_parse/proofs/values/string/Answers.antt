use Rattle.gq_parse.proofs.MadeValues.{lone_string}
use Rattle.gq_parse.proofs.values.string.Goals as goal

pub returns-clause-found : goal.returns-clause-found
returns-clause-found c = λ constant. lone_string constant c.in_ok-literal.literal c.in_ok-literal.ensures.found
