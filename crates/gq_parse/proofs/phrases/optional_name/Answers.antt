use Rattle.gq_parse.specs.Grammar.{no_name, a_name}
use Rattle.gq_parse.proofs.phrases.optional_name.Goals as goal

pub returns-in_ok-name-in-Some-clause-found : goal.returns-in_ok-name-in-Some-clause-found
returns-in_ok-name-in-Some-clause-found c = a_name c.in_ok-name-in-Some.ensures.found

pub returns-in-None-clause-found : goal.returns-in-None-clause-found
returns-in-None-clause-found c = no_name c.in-None.ensures.none
