use Rattle.gq_fields.specs.FieldFaults.{IsFieldFault}
use Rattle.gq_fragments.specs.OperationFaults.{IsOperationFault}
use Rattle.gq_fragments.specs.FragmentFaults.{IsFragmentFault}
use Rattle.gq_spreads.specs.SpreadFaults.{IsSpreadFault}
use Rattle.gq_variables.specs.VariableFaults.{IsVariableFault}
use Rattle.gq_merging.specs.FieldsMerge.{IsMergingFault}
use Rattle.gq_laws.proofs.Placing.Both.{faultless}
use Rattle.gq_laws.proofs.places.trees_say_what_is_faultless.Goals as goal

pub returns : goal.returns
returns c =
    let law = c.no_places_matter.ensures in record {
      fields = faultless IsFieldFault law.fields;
      operations = faultless IsOperationFault law.operations;
      fragments = faultless IsFragmentFault law.fragments;
      spreads = faultless IsSpreadFault law.spreads;
      variables = faultless IsVariableFault law.variables;
      merging = faultless IsMergingFault law.merging;
    }
