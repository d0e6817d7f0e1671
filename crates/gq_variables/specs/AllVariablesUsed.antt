-- An operation must use each variable that it defines, itself or in a fragment that it reaches (section 5.8.4).
use Rattle.std.specs.Prelude.{◌≡◌, ◌≢◌, Contains}
use Rattle.gq_text.specs.declared.place.Span.{Span}
use Rattle.gq_tree.specs.Plain.{VariableOf}
use Rattle.gq_fault.specs.declared.code.Code.TheVariants.{VariableNotUsed}
use Rattle.gq_fault.specs.declared.fault.Fault.{Fault}
use Rattle.gq_fault.specs.FaultPlaces.{fault_at}
use Rattle.gq_document.specs.Definitions.{OperationOf}
use Rattle.gq_document.specs.Executable.{ExecutableOf}
use Rattle.gq_variables.specs.Uses.{UseOf}
use Rattle.gq_variables.specs.ReachedUses.{ReachesUse}

-- a variable whose name no use has
pub record IsNotUsed (x : ExecutableOf) (o : OperationOf) (fault : Fault) : Type 0 where
  pub variable : VariableOf Span
  pub defined : Contains o.variables variable
  pub unused : (u : UseOf) → ReachesUse x o u → u.name.text ≢ variable.name.text
  pub is : fault ≡ fault_at o.file VariableNotUsed variable.name
