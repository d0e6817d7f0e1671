use Rattle.gq_parse.proofs.MadeValues.{lone_float}
use Rattle.gq_parse.proofs.values.float.Goals as goal

pub returns-clause-found : goal.returns-clause-found
returns-clause-found c = λ constant. lone_float constant c.in_ok-literal.literal c.in_ok-literal.ensures.found
