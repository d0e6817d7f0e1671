-- Arguments of fields: each is one of the field's definition, stands once, and none that is required is missing (section 5.4);
-- its value is of its type (section 5.6). Where the field is not known, arguments, and input fields in their values, are only
-- asked to stand once.
use Rattle.std.specs.Option.{option_map}
use Rattle.gq_fault.specs.declared.fault.Fault.{Fault}
use Rattle.gq_document.specs.Selections.{selected_field}
use Rattle.gq_document.specs.Executable.{ExecutableOf}
use Rattle.gq_values.specs.ArgumentFaults.{IsArgumentFault}
use Rattle.gq_fields.specs.SelectedFields.{SelectsField}

-- what is wrong with a field's arguments, against those of its definition
pub record HasWrongArgument (x : ExecutableOf) (item : Fault) : Type 0 where
  pub one : SelectsField x
  pub fault : IsArgumentFault x.entries one.selected.file (option_map (λ f. f.arguments) (selected_field x.entries one.selected.parent one.name.text)) one.name one.arguments item
