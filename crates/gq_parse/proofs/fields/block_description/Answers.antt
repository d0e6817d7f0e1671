use Rattle.gq_parse.specs.TypeSystem.{no_description}
use Rattle.gq_parse.proofs.MadeFields.{block_description_of}
use Rattle.gq_parse.proofs.fields.block_description.Goals as goal

pub returns-in_ok-text-in-Some-clause-found : goal.returns-in_ok-text-in-Some-clause-found
returns-in_ok-text-in-Some-clause-found c = block_description_of c.in_ok-text-in-Some.text c.in_ok-text-in-Some.ensures.found

pub returns-in-None-clause-found : goal.returns-in-None-clause-found
returns-in-None-clause-found c = no_description c.requires.no_string c.in-None.ensures.none
