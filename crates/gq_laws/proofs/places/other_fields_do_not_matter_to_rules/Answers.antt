use Rattle.gq_laws.proofs.Placing.Lookups.{other_fields}
use Rattle.gq_laws.proofs.Placing.LookupDefinitions.{other_fields_of_operations, other_fields_of_fragments}
use Rattle.gq_laws.proofs.Placing.LookupSpreads.{other_fields_of_spreads}
use Rattle.gq_laws.proofs.Placing.LookupVariables.{other_fields_of_variables}
use Rattle.gq_laws.proofs.Placing.LookupMerging.{other_fields_of_merging}
use Rattle.gq_laws.proofs.Placing.Rules.{other_fields_by_group}
use Rattle.gq_laws.proofs.places.other_fields_do_not_matter_to_rules.Goals as goal

pub returns : goal.returns
returns c = other_fields_by_group other_fields_of_operations other_fields other_fields_of_fragments other_fields_of_spreads other_fields_of_variables other_fields_of_merging
