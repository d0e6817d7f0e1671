-- What is wrong with type conditions: each fault that a rule demands, one case a rule (sections 5.5.1.2 and 5.5.1.3).
use Rattle.gq_fault.specs.declared.fault.Fault.{Fault}
use Rattle.gq_document.specs.Executable.{ExecutableOf}
use Rattle.gq_fragments.specs.FragmentSpreadTypeExistence.{IsUnknownCondition}
use Rattle.gq_fragments.specs.FragmentsOnCompositeTypes.{IsConditionNotComposite}

pub data IsConditionFault (x : ExecutableOf) (fault : Fault) : Type 0 where
  unknown_condition : IsUnknownCondition x fault → IsConditionFault x fault
  condition_not_composite : IsConditionNotComposite x fault → IsConditionFault x fault
