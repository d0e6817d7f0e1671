-- No two variables of an operation may have the same name (section 5.8.1).
use Rattle.std.specs.Prelude.{◌≡◌}
use Rattle.gq_text.specs.declared.place.Span.{Span}
use Rattle.gq_tree.specs.Plain.{VariableOf}
use Rattle.gq_names.specs.Repeats.{IsRepeated}
use Rattle.gq_fault.specs.declared.code.Code.TheVariants.{VariableNotUnique}
use Rattle.gq_fault.specs.declared.fault.Fault.{Fault}
use Rattle.gq_fault.specs.FaultPlaces.{fault_at}
use Rattle.gq_document.specs.Definitions.{OperationOf}

-- a variable whose name an earlier one has
pub record IsNotUnique (o : OperationOf) (fault : Fault) : Type 0 where
  pub variable : VariableOf Span
  pub repeated : IsRepeated (λ v. v.name.text) o.variables variable
  pub is : fault ≡ fault_at o.file VariableNotUnique variable.name
