-- Leaf field selections: a field of a composite type has selections in braces below it, and a field of a scalar or an enum
-- has none (section 5.3.3). Neither is asked where the field or its type is not known.
use Rattle.std.specs.Prelude.{◌≡◌, ◌≢◌, Some, is_some}
use Rattle.gq_fault.specs.declared.code.Code.TheVariants.{WrongSelections}
use Rattle.gq_fault.specs.declared.fault.Fault.{Fault}
use Rattle.gq_types.specs.declared.entry.TypeKind.{TypeKind}
use Rattle.gq_types.specs.Joined.{kind_named}
use Rattle.gq_types.specs.Kinds.{is_composite}
use Rattle.gq_document.specs.Selections.{FieldOf, selected_field}
use Rattle.gq_tree.specs.NamedTypes.{base_name}
use Rattle.gq_document.specs.Executable.{ExecutableOf}
use Rattle.gq_fault.specs.FaultPlaces.{fault_at}
use Rattle.gq_fields.specs.SelectedFields.{SelectsField}

-- at the field's name
pub record HasWrongSelections (x : ExecutableOf) (fault : Fault) : Type 0 where
  pub one : SelectsField x
  pub definition : FieldOf
  pub is_defined : selected_field x.entries one.selected.parent one.name.text ≡ Some definition
  pub kind : TypeKind
  pub is_known : kind_named x.entries (base_name definition.type_ref) ≡ Some kind
  pub is_wrong : is_some one.braces ≢ is_composite kind
  pub is : fault ≡ fault_at one.selected.file WrongSelections one.name
