-- The type of a variable must be an input type (section 5.8.2).
use Rattle.std.specs.Prelude.{◌≡◌, false, List, Some, None, Contains}
use Rattle.gq_text.specs.declared.place.Span.{Span}
use Rattle.gq_tree.specs.Plain.{VariableOf}
use Rattle.gq_fault.specs.declared.code.Code.TheVariants.{VariableNotOfInputType}
use Rattle.gq_fault.specs.declared.fault.Fault.{Fault}
use Rattle.gq_types.specs.declared.entry.TypeKind.{TypeKind}
use Rattle.gq_types.specs.Entries.{Text, EntryOf}
use Rattle.gq_types.specs.Joined.{kind_named}
use Rattle.gq_types.specs.Kinds.{is_input}
use Rattle.gq_fault.specs.FaultPlaces.{fault_at}
use Rattle.gq_document.specs.Definitions.{OperationOf}
use Rattle.gq_tree.specs.NamedTypes.{base_name}

-- no type has the name, or a type that is no input type
pub data NamesNoInputType (es : List EntryOf) (text : Text) : Type 0 where
  unknown : kind_named es text ≡ None → NamesNoInputType es text
  of_output : {kind : TypeKind} → kind_named es text ≡ Some kind → is_input kind ≡ false → NamesNoInputType es text

pub record IsNotOfInputType (es : List EntryOf) (o : OperationOf) (fault : Fault) : Type 0 where
  pub variable : VariableOf Span
  pub defined : Contains o.variables variable
  pub no_input : NamesNoInputType es (base_name variable.type_ref)
  pub is : fault ≡ fault_at o.file VariableNotOfInputType variable.name
