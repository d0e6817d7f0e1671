-- An operation must define each variable that it uses, itself or in a fragment that it reaches (section 5.8.3).
use Rattle.std.specs.Prelude.{◌≡◌, ◌≢◌, Contains}
use Rattle.gq_text.specs.declared.place.Span.{Span}
use Rattle.gq_tree.specs.Plain.{VariableOf}
use Rattle.gq_fault.specs.declared.code.Code.TheVariants.{VariableNotDefined}
use Rattle.gq_fault.specs.declared.fault.Fault.{Fault}
use Rattle.gq_fault.specs.FaultPlaces.{fault_at}
use Rattle.gq_document.specs.Definitions.{OperationOf}
use Rattle.gq_document.specs.Executable.{ExecutableOf}
use Rattle.gq_variables.specs.Uses.{UseOf}
use Rattle.gq_variables.specs.ReachedUses.{ReachesUse}

-- a use of a name that no variable of the operation has
pub record IsNotDefined (x : ExecutableOf) (o : OperationOf) (fault : Fault) : Type 0 where
  pub one : UseOf
  pub reached : ReachesUse x o one
  pub undefined : (v : VariableOf Span) → Contains o.variables v → v.name.text ≢ one.name.text
  pub is : fault ≡ fault_at one.file VariableNotDefined one.name
