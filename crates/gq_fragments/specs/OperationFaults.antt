-- What is wrong with operations: each fault that a rule demands, one case a rule (section 5.2).
use Rattle.gq_fault.specs.declared.fault.Fault.{Fault}
use Rattle.gq_document.specs.Executable.{ExecutableOf}
use Rattle.gq_fragments.specs.SubscriptionOperation.{IsSubscription}
use Rattle.gq_fragments.specs.RootOperationTypes.{HasNoRootType}
use Rattle.gq_fragments.specs.OperationNameUniqueness.{IsRepeatedOperationName}
use Rattle.gq_fragments.specs.LoneAnonymousOperation.{IsNotAlone}

pub data IsOperationFault (x : ExecutableOf) (fault : Fault) : Type 0 where
  subscription : IsSubscription x fault → IsOperationFault x fault
  no_root_type : HasNoRootType x fault → IsOperationFault x fault
  repeated_operation_name : IsRepeatedOperationName x fault → IsOperationFault x fault
  not_alone : IsNotAlone x fault → IsOperationFault x fault
