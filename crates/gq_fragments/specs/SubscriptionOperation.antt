-- Subscription operations (section 2.3) are not executed: each is told.
use Rattle.std.specs.Prelude.{◌≡◌, Contains}
use Rattle.gq_tree.specs.declared.tree.OperationKind.TheVariants.{Subscription}
use Rattle.gq_fault.specs.declared.code.Code.TheVariants.{SubscriptionOperation}
use Rattle.gq_fault.specs.declared.fault.Fault.{Fault}
use Rattle.gq_document.specs.Definitions.{OperationOf}
use Rattle.gq_document.specs.Executable.{ExecutableOf}
use Rattle.gq_fault.specs.FaultPlaces.{fault_over}
use Rattle.gq_fragments.specs.OperationPlace.{operation_place}

-- a subscription
pub record IsSubscription (x : ExecutableOf) (fault : Fault) : Type 0 where
  pub operation : OperationOf
  pub stands : Contains x.operations operation
  pub is_subscription : operation.kind ≡ Subscription
  pub is : fault ≡ fault_over operation.file SubscriptionOperation (operation_place operation)
