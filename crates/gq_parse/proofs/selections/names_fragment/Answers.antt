use Rattle.gq_parse.proofs.Fronts.{not_some}
use Rattle.gq_parse.proofs.MadeSelections.{no_condition_there}
use Rattle.gq_parse.proofs.selections.names_fragment.Goals as goal

pub returns-in-Some-clause-yes : goal.returns-in-Some-clause-yes
returns-in-Some-clause-yes c = λ yes. no_condition_there c.in-Some.ensures.found (not_some _ _ c.is_none.ensures yes c.keyword.ensures.none)
