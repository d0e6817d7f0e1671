use Rattle.gq_fields.specs.FieldFaults.{IsFieldFault}
use Rattle.gq_fragments.specs.OperationFaults.{IsOperationFault}
use Rattle.gq_fragments.specs.FragmentFaults.{IsFragmentFault}
use Rattle.gq_spreads.specs.SpreadFaults.{IsSpreadFault}
use Rattle.gq_variables.specs.VariableFaults.{IsVariableFault}
use Rattle.gq_merging.specs.FieldsMerge.{IsMergingFault}
use Rattle.gq_laws.proofs.Placing.Both.{both}
use Rattle.gq_laws.proofs.places.no_places_matter.Goals as goal

pub returns : goal.returns
returns c =
    let definitions = c.places_do_not_matter_to_definition_faults.ensures in
    let types = c.places_of_types_do_not_matter.ensures in record {
      fields = both IsFieldFault c.places_do_not_matter_to_field_faults.ensures types.fields;
      operations = both IsOperationFault definitions.operations types.operations;
      fragments = both IsFragmentFault definitions.fragments types.fragments;
      spreads = both IsSpreadFault c.places_do_not_matter_to_spread_faults.ensures types.spreads;
      variables = both IsVariableFault c.places_do_not_matter_to_variable_faults.ensures types.variables;
      merging = both IsMergingFault c.places_do_not_matter_to_merging_faults.ensures types.merging;
    }
