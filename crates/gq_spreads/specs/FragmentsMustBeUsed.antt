-- Fragments must be used (section 5.5.1.4): each fragment is spread somewhere in an operation or a fragment.
use Rattle.std.specs.Prelude.{◌≡◌, Contains}
use Rattle.gq_fault.specs.declared.code.Code.TheVariants.{FragmentNotUsed}
use Rattle.gq_fault.specs.declared.fault.Fault.{Fault}
use Rattle.gq_document.specs.Definitions.{OperationOf, FragmentOf}
use Rattle.gq_document.specs.Executable.{ExecutableOf}
use Rattle.gq_document.specs.Reaches.{IsSpreadIn}
use Rattle.gq_fault.specs.FaultPlaces.{fault_at}

-- a fragment that is spread in no operation and in no fragment, itself included
pub record IsUnusedFragment (x : ExecutableOf) (fault : Fault) : Type 0 where
  pub fragment : FragmentOf
  pub stands : Contains x.fragments fragment
  pub in_no_operation : (o : OperationOf) → Contains x.operations o → IsSpreadIn o.set fragment → ⊥
  pub in_no_fragment : (f : FragmentOf) → Contains x.fragments f → IsSpreadIn f.set fragment → ⊥
  pub is : fault ≡ fault_at fragment.file FragmentNotUsed fragment.name
