-- Fragment spread type existence (section 5.5.1.2): the type of a type condition is defined.
use Rattle.std.specs.Prelude.{◌≡◌, ℕ, None}
use Rattle.gq_text.specs.declared.place.Span.{Span}
use Rattle.gq_tree.specs.Plain.{NameOf}
use Rattle.gq_fault.specs.declared.code.Code.TheVariants.{UnknownTypeCondition}
use Rattle.gq_fault.specs.declared.fault.Fault.{Fault}
use Rattle.gq_types.specs.Joined.{kind_named}
use Rattle.gq_document.specs.Executable.{ExecutableOf}
use Rattle.gq_fault.specs.FaultPlaces.{fault_at}
use Rattle.gq_fragments.specs.TypeConditions.{IsTypeCondition}

-- a type condition that names no type
pub record IsUnknownCondition (x : ExecutableOf) (fault : Fault) : Type 0 where
  pub file : ℕ
  pub name : NameOf Span
  pub is_condition : IsTypeCondition x file name
  pub is_unknown : kind_named x.entries name.text ≡ None
  pub is : fault ≡ fault_at file UnknownTypeCondition name
