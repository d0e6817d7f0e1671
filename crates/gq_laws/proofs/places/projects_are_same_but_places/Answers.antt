use Rattle.gq_laws.proofs.Placing.Documents.{projects_are_same}
use Rattle.gq_laws.proofs.places.projects_are_same_but_places.Goals as goal

pub returns : goal.returns
returns c = projects_are_same
