-- Fragments on composite types (section 5.5.1.3): the type of a type condition is an object type, an interface or a union.
use Rattle.std.specs.Prelude.{◌≡◌, ℕ, false, Some}
use Rattle.gq_text.specs.declared.place.Span.{Span}
use Rattle.gq_tree.specs.Plain.{NameOf}
use Rattle.gq_fault.specs.declared.code.Code.TheVariants.{ConditionNotComposite}
use Rattle.gq_fault.specs.declared.fault.Fault.{Fault}
use Rattle.gq_types.specs.declared.entry.TypeKind.{TypeKind}
use Rattle.gq_types.specs.Kinds.{is_composite}
use Rattle.gq_types.specs.Joined.{kind_named}
use Rattle.gq_document.specs.Executable.{ExecutableOf}
use Rattle.gq_fault.specs.FaultPlaces.{fault_at}
use Rattle.gq_fragments.specs.TypeConditions.{IsTypeCondition}

-- a type condition that names a type of another kind
pub record IsConditionNotComposite (x : ExecutableOf) (fault : Fault) : Type 0 where
  pub file : ℕ
  pub name : NameOf Span
  pub is_condition : IsTypeCondition x file name
  pub kind : TypeKind
  pub is_known : kind_named x.entries name.text ≡ Some kind
  pub is_not_composite : is_composite kind ≡ false
  pub is : fault ≡ fault_at file ConditionNotComposite name
