use Rattle.gq_spreads.specs.SpreadFaults.{IsSpreadFault}
use Rattle.gq_variables.specs.VariableFaults.{IsVariableFault}
use Rattle.gq_merging.specs.FieldsMerge.{IsMergingFault}
use Rattle.gq_laws.proofs.Placing.Renames.{fragment_renames_keep}
use Rattle.gq_laws.proofs.Placing.SpreadPlaces.{spreads_alike}
use Rattle.gq_laws.proofs.Placing.VariablePlaces.{variables_alike}
use Rattle.gq_laws.proofs.Placing.MergingFields.{merging_alike}
use Rattle.gq_laws.proofs.Placing.OtherNamesSpreads.{spreads_from}
use Rattle.gq_laws.proofs.Placing.OtherNamesVariables.{variables_from}
use Rattle.gq_laws.proofs.Placing.OtherNamesMerging.{merging_from}
use Rattle.gq_laws.proofs.Placing.OtherNamesRead.{names_keep}
use Rattle.gq_laws.proofs.places.fragment_renames_keep_what_is_faultless.Goals as goal

pub returns : goal.returns
returns c = record {
  fragments = fragment_renames_keep;
  spreads = names_keep IsSpreadFault spreads_alike spreads_from;
  variables = names_keep IsVariableFault variables_alike variables_from;
  merging = names_keep IsMergingFault merging_alike merging_from;
}
