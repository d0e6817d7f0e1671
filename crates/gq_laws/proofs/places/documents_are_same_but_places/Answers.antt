use Rattle.gq_laws.proofs.Placing.Documents.{documents_are_same}
use Rattle.gq_laws.proofs.places.documents_are_same_but_places.Goals as goal

pub returns : goal.returns
returns c = documents_are_same
