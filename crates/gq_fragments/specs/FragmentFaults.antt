-- What is wrong with fragments: each fault that a rule demands, one case a rule (section 5.5).
use Rattle.gq_fault.specs.declared.fault.Fault.{Fault}
use Rattle.gq_document.specs.Executable.{ExecutableOf}
use Rattle.gq_fragments.specs.FragmentNameUniqueness.{IsRepeatedFragmentName}
use Rattle.gq_fragments.specs.FragmentSpreadTypeExistence.{IsUnknownCondition}
use Rattle.gq_fragments.specs.FragmentsOnCompositeTypes.{IsConditionNotComposite}
use Rattle.gq_fragments.specs.FragmentSpreadIsPossible.{IsSpreadNotPossible}

pub data IsFragmentFault (x : ExecutableOf) (fault : Fault) : Type 0 where
  repeated_fragment_name : IsRepeatedFragmentName x fault → IsFragmentFault x fault
  unknown_condition : IsUnknownCondition x fault → IsFragmentFault x fault
  condition_not_composite : IsConditionNotComposite x fault → IsFragmentFault x fault
  spread_not_possible : IsSpreadNotPossible x fault → IsFragmentFault x fault
