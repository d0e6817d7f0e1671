use Rattle.gq_parse.proofs.MadeFields.{description_of}
use Rattle.gq_parse.proofs.fields.description.Goals as goal

pub returns-in_ok-text-in-Some-clause-found : goal.returns-in_ok-text-in-Some-clause-found
returns-in_ok-text-in-Some-clause-found c = description_of c.in_ok-text-in-Some.text c.in_ok-text-in-Some.ensures.found
