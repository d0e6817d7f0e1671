use Rattle.gq_fields.specs.FieldFaults.{IsFieldFault}
use Rattle.gq_fragments.specs.OperationFaults.{IsOperationFault}
use Rattle.gq_fragments.specs.FragmentSpreadTypeExistence.{IsUnknownCondition}
use Rattle.gq_fragments.specs.FragmentsOnCompositeTypes.{IsConditionNotComposite}
use Rattle.gq_laws.proofs.Placing.Both.{renames_keep}
use Rattle.gq_laws.proofs.places.renames_keep_what_is_faultless.Goals as goal

pub returns : goal.returns
returns c =
    let law = c.names_do_not_matter.ensures in record {
      fields = renames_keep IsFieldFault law.fields;
      operations = renames_keep IsOperationFault law.operations;
      unknown_conditions = renames_keep IsUnknownCondition law.unknown_conditions;
      other_conditions = renames_keep IsConditionNotComposite law.other_conditions;
    }
