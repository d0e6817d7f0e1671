use Rattle.gq_laws.proofs.Placing.Whole.{names_do_not_matter}
use Rattle.gq_laws.proofs.Placing.Operations.{names_of_operations, names_of_unknown_conditions, names_of_other_conditions}
use Rattle.gq_laws.proofs.places.names_do_not_matter.Goals as goal

pub returns : goal.returns
returns c = record {
  fields = names_do_not_matter;
  operations = names_of_operations;
  unknown_conditions = names_of_unknown_conditions;
  other_conditions = names_of_other_conditions;
}
