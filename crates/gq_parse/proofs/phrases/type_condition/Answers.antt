use Rattle.gq_parse.proofs.phrases.type_condition.Goals as goal

pub returns-in-None-clause-none : goal.returns-in-None-clause-none
returns-in-None-clause-none c = λ e n rest h. c.in-None.ensures.none h.keyword h.behind h.begins
