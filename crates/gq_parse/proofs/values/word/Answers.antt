use Rattle.gq_parse.proofs.MadeValues.{lone_true, lone_false, lone_null, lone_enum}
use Rattle.gq_parse.proofs.values.word.Goals as goal

pub returns-in-Some-clause-found : goal.returns-in-Some-clause-found
returns-in-Some-clause-found c = λ constant. lone_true constant c.in-Some.span c.in-Some.ensures.found

pub returns-in-Some-keyword-clause-found : goal.returns-in-Some-keyword-clause-found
returns-in-Some-keyword-clause-found c = λ constant. lone_false constant c.in-Some-keyword.span c.in-Some-keyword.ensures.found

pub returns-in-Some-keyword-2-clause-found : goal.returns-in-Some-keyword-2-clause-found
returns-in-Some-keyword-2-clause-found c = λ constant. lone_null constant c.in-Some-keyword-2.span c.in-Some-keyword-2.ensures.found

pub returns-clause-found : goal.returns-clause-found
returns-clause-found c = λ constant. lone_enum constant c.in_ok-name.name c.in_default.ensures.none c.in_default-keyword.ensures.none c.in_default-keyword-2.ensures.none c.in_ok-name.ensures.found
