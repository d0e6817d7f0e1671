use Rattle.gq_parse.proofs.MadeValues.{lone_int}
use Rattle.gq_parse.proofs.values.int.Goals as goal

pub returns-clause-found : goal.returns-clause-found
returns-clause-found c = λ constant. lone_int constant c.in_ok-literal.literal c.in_ok-literal.ensures.found
