use Rattle.gq_laws.proofs.Placing.Documents.{renamed_are_same}
use Rattle.gq_laws.proofs.places.renamed_documents_are_same_but_names.Goals as goal

pub returns : goal.returns
returns c = renamed_are_same
