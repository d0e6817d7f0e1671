-- Root operation types (section 3.3.1): where the schema has no root type for mutations, it does not support them.
use Rattle.std.specs.Prelude.{◌≡◌, None, Contains}
use Rattle.gq_tree.specs.declared.tree.OperationKind.TheVariants.{Mutation}
use Rattle.gq_fault.specs.declared.code.Code.TheVariants.{NoRootType}
use Rattle.gq_fault.specs.declared.fault.Fault.{Fault}
use Rattle.gq_types.specs.Roots.{root_of}
use Rattle.gq_document.specs.Definitions.{OperationOf}
use Rattle.gq_document.specs.Executable.{ExecutableOf}
use Rattle.gq_fault.specs.FaultPlaces.{fault_over}
use Rattle.gq_fragments.specs.OperationPlace.{operation_place}

-- a mutation without a root type
pub record HasNoRootType (x : ExecutableOf) (fault : Fault) : Type 0 where
  pub operation : OperationOf
  pub stands : Contains x.operations operation
  pub is_mutation : operation.kind ≡ Mutation
  pub has_no_root : root_of x.entries Mutation ≡ None
  pub is : fault ≡ fault_over operation.file NoRootType (operation_place operation)
