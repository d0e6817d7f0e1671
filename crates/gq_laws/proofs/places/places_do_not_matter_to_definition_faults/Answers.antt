use Rattle.gq_fragments.specs.OperationFaults.{IsOperationFault}
use Rattle.gq_laws.proofs.Placing.Bare.{by_names}
use Rattle.gq_laws.proofs.Placing.Operations.{names_of_operations}
use Rattle.gq_laws.proofs.Placing.DefinitionFaults.{fragments_alike}
use Rattle.gq_laws.proofs.places.places_do_not_matter_to_definition_faults.Goals as goal

pub returns : goal.returns
returns c = record { operations = by_names IsOperationFault names_of_operations; fragments = fragments_alike }
