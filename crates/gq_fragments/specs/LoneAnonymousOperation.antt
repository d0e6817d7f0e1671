-- Lone anonymous operation (section 5.2.2.1): where an operation has no name, there is no other operation.
use Rattle.std.specs.Prelude.{◌≡◌, ◌≢◌, ℕ, Some, None, slice_get}
use Rattle.gq_fault.specs.declared.code.Code.TheVariants.{AnonymousOperationNotAlone}
use Rattle.gq_fault.specs.declared.fault.Fault.{Fault}
use Rattle.gq_document.specs.Definitions.{OperationOf}
use Rattle.gq_document.specs.Executable.{ExecutableOf}
use Rattle.gq_fault.specs.FaultPlaces.{fault_over}
use Rattle.gq_fragments.specs.OperationPlace.{first_token}

-- an anonymous operation, and another operation in any of the documents
pub record IsNotAlone (x : ExecutableOf) (fault : Fault) : Type 0 where
  pub number : ℕ
  pub operation : OperationOf
  pub stands : slice_get x.operations number ≡ Some operation
  pub is_anonymous : operation.name ≡ None
  pub other_number : ℕ
  pub other : OperationOf
  pub other_stands : slice_get x.operations other_number ≡ Some other
  pub is_another : number ≢ other_number
  pub is : fault ≡ fault_over operation.file AnonymousOperationNotAlone (first_token operation)
