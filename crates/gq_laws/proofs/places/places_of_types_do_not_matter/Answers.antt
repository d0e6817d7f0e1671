use Rattle.gq_laws.proofs.Placing.Lookups.{places_of_types}
use Rattle.gq_laws.proofs.Placing.LookupDefinitions.{types_of_operations, types_of_fragments}
use Rattle.gq_laws.proofs.Placing.LookupSpreads.{types_of_spreads}
use Rattle.gq_laws.proofs.Placing.LookupVariables.{types_of_variables}
use Rattle.gq_laws.proofs.Placing.LookupMerging.{types_of_merging}
use Rattle.gq_laws.proofs.places.places_of_types_do_not_matter.Goals as goal

pub returns : goal.returns
returns c = record {
  fields = places_of_types;
  operations = types_of_operations;
  fragments = types_of_fragments;
  spreads = types_of_spreads;
  variables = types_of_variables;
  merging = types_of_merging;
}
