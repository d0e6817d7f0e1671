-- Field selections: a field that is selected is defined on the type of its parent, where that is known (section 5.3.1).
use Rattle.std.specs.Prelude.{◌≡◌, Some, None}
use Rattle.gq_fault.specs.declared.code.Code.TheVariants.{UnknownField}
use Rattle.gq_fault.specs.declared.fault.Fault.{Fault}
use Rattle.gq_types.specs.declared.entry.TypeKind.{TypeKind}
use Rattle.gq_types.specs.Entries.{Text}
use Rattle.gq_types.specs.Joined.{kind_named}
use Rattle.gq_document.specs.Selections.{field_on}
use Rattle.gq_document.specs.Executable.{ExecutableOf}
use Rattle.gq_fault.specs.FaultPlaces.{fault_at}
use Rattle.gq_fields.specs.SelectedFields.{SelectsField}

-- at the field's name
pub record IsUnknownField (x : ExecutableOf) (fault : Fault) : Type 0 where
  pub one : SelectsField x
  pub type_name : Text
  pub is_parent : one.selected.parent ≡ Some type_name
  pub kind : TypeKind
  pub is_known : kind_named x.entries type_name ≡ Some kind
  pub is_not_defined : field_on x.entries type_name one.name.text ≡ None
  pub is : fault ≡ fault_at one.selected.file UnknownField one.name
