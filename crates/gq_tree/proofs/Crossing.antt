-- Trees may cross threads: each type of a tree is `Send` and `Sync`, shown from its parts, since a search that goes down
-- through all of them runs out of steps.
use denote.Param.Send.{IsSend, IsSync, sendable}
use Rattle.std.proofs.Crossing.{crosses}
use Rattle.gq_text.proofs.place.Span.TheSendSync as Span
use Rattle.gq_tree.proofs.tree.Name.TheSendSync as Name
use Rattle.gq_tree.proofs.tree.OperationKind.TheSendSync as OperationKind
use Rattle.gq_tree.proofs.type_system.DirectiveLocation.TheSendSync as DirectiveLocation
use Rattle.gq_tree.proofs.type_system.RootOperationType.TheSendSync as RootOperationType
use Rattle.gq_tree.proofs.value.Literal.TheSendSync as Literal
use Rattle.gq_tree.proofs.value.Variable.TheSendSync as Variable
use Rattle.gq_tree.proofs.types.TypeRef.TheLaws.TheKnot.{send-TypeRef, sync-TypeRef}
use Rattle.gq_tree.proofs.value.Value.TheLaws.TheKnot.{send-Value, sync-Value}
use Rattle.gq_tree.proofs.tree.Selection.TheLaws.TheKnot.{send-SelectionSet, sync-SelectionSet, sync-Selection}
use Rattle.gq_tree.specs.contracts.parsed.Parsed as ReadingType
use Rattle.gq_tree.specs.contracts.types.TypeRef as TypeRefType
use Rattle.gq_tree.specs.contracts.value.Value as ValueType
use Rattle.gq_tree.specs.contracts.value.Argument as ArgumentType
use Rattle.gq_tree.specs.contracts.value.Directive as DirectiveType
use Rattle.gq_tree.specs.contracts.tree.Spread as SpreadType
use Rattle.gq_tree.specs.contracts.tree.Selection as SelectionType
use Rattle.gq_tree.specs.contracts.tree.SelectionSet as SelectionSetType
use Rattle.gq_tree.specs.contracts.tree.VariableDefinition as VariableDefinitionType
use Rattle.gq_tree.specs.contracts.tree.Operation as OperationType
use Rattle.gq_tree.specs.contracts.tree.Fragment as FragmentType
use Rattle.gq_tree.specs.contracts.type_system.SchemaDefinition as SchemaDefinitionType
use Rattle.gq_tree.specs.contracts.type_system.InputValueDefinition as InputValueDefinitionType
use Rattle.gq_tree.specs.contracts.type_system.FieldDefinition as FieldDefinitionType
use Rattle.gq_tree.specs.contracts.type_system.EnumValueDefinition as EnumValueDefinitionType
use Rattle.gq_tree.specs.contracts.type_system.FieldsAndInterfaces as FieldsAndInterfacesType
use Rattle.gq_tree.specs.contracts.type_system.TypeBody as TypeBodyType
use Rattle.gq_tree.specs.contracts.type_system.TypeDefinition as TypeDefinitionType
use Rattle.gq_tree.specs.contracts.type_system.DirectiveDefinition as DirectiveDefinitionType
use Rattle.gq_tree.specs.contracts.type_system.TypeSystemDefinition as TypeSystemDefinitionType
use Rattle.gq_tree.specs.contracts.tree.Definition as DefinitionType
use Rattle.gq_tree.specs.contracts.tree.Document as DocumentType

TypeRef-field_send : IsSend (TypeRefType.the_field).row
TypeRef-field_send = search (sendable, crosses, send-TypeRef, Name.the_field_send) depth 12

TypeRef-field_sync : IsSync (TypeRefType.the_field).row
TypeRef-field_sync = search (sendable, crosses, sync-TypeRef, Name.the_field_sync) depth 12

pub TypeRef-sync : IsSync TypeRefType.the_row
TypeRef-sync = search (sendable, crosses, TypeRef-field_sync) depth 12

Value-field_send : IsSend (ValueType.the_field).row
Value-field_send = search (sendable, crosses, send-Value, Variable.the_field_send, Literal.the_field_send, Name.the_field_send, Span.the_field_send) depth 12

Value-send : IsSend ValueType.the_row
Value-send = search (sendable, crosses, Value-field_send) depth 12

Value-field_sync : IsSync (ValueType.the_field).row
Value-field_sync = search (sendable, crosses, sync-Value, Variable.the_field_sync, Literal.the_field_sync, Name.the_field_sync, Span.the_field_sync) depth 12

Value-sync : IsSync ValueType.the_row
Value-sync = search (sendable, crosses, Value-field_sync) depth 12

Argument-field_send : IsSend (ArgumentType.the_field).row
Argument-field_send = search (sendable, crosses, Name.the_field_send, Value-field_send) depth 12

Argument-send : IsSend ArgumentType.the_row
Argument-send = search (sendable, crosses, Argument-field_send) depth 12

Argument-field_sync : IsSync (ArgumentType.the_field).row
Argument-field_sync = search (sendable, crosses, Name.the_field_sync, Value-field_sync) depth 12

pub Argument-sync : IsSync ArgumentType.the_row
Argument-sync = search (sendable, crosses, Argument-field_sync) depth 12

Directive-field_send : IsSend (DirectiveType.the_field).row
Directive-field_send = search (sendable, crosses, Name.the_field_send, Argument-send, Span.the_field_send) depth 12

Directive-send : IsSend DirectiveType.the_row
Directive-send = search (sendable, crosses, Directive-field_send) depth 12

Directive-field_sync : IsSync (DirectiveType.the_field).row
Directive-field_sync = search (sendable, crosses, Name.the_field_sync, Argument-sync, Span.the_field_sync) depth 12

Directive-sync : IsSync DirectiveType.the_row
Directive-sync = search (sendable, crosses, Directive-field_sync) depth 12

Spread-field_send : IsSend (SpreadType.the_field).row
Spread-field_send = search (sendable, crosses, Name.the_field_send, Directive-send, Span.the_field_send) depth 12

Spread-field_sync : IsSync (SpreadType.the_field).row
Spread-field_sync = search (sendable, crosses, Name.the_field_sync, Directive-sync, Span.the_field_sync) depth 12

pub Selection-sync : IsSync SelectionType.the_row
Selection-sync = search (sendable, crosses, sync-Selection, Name.the_field_sync, Name.the_sync, Argument-sync, Directive-sync, Spread-field_sync, Span.the_field_sync) depth 12

SelectionSet-field_send : IsSend (SelectionSetType.the_field).row
SelectionSet-field_send = search (sendable, crosses, send-SelectionSet, Name.the_field_send, Name.the_send, Argument-send, Directive-send, Spread-field_send, Span.the_field_send) depth 12

SelectionSet-field_sync : IsSync (SelectionSetType.the_field).row
SelectionSet-field_sync = search (sendable, crosses, sync-SelectionSet, Name.the_field_sync, Name.the_sync, Argument-sync, Directive-sync, Spread-field_sync, Span.the_field_sync) depth 12

VariableDefinition-field_send : IsSend (VariableDefinitionType.the_field).row
VariableDefinition-field_send = search (sendable, crosses, Variable.the_field_send, TypeRef-field_send, Value-send, Directive-send) depth 12

VariableDefinition-send : IsSend VariableDefinitionType.the_row
VariableDefinition-send = search (sendable, crosses, VariableDefinition-field_send) depth 12

VariableDefinition-field_sync : IsSync (VariableDefinitionType.the_field).row
VariableDefinition-field_sync = search (sendable, crosses, Variable.the_field_sync, TypeRef-field_sync, Value-sync, Directive-sync) depth 12

VariableDefinition-sync : IsSync VariableDefinitionType.the_row
VariableDefinition-sync = search (sendable, crosses, VariableDefinition-field_sync) depth 12

pub Operation-field_send : IsSend (OperationType.the_field).row
Operation-field_send = search (sendable, crosses, OperationKind.the_field_send, Name.the_send, VariableDefinition-send, Directive-send, SelectionSet-field_send, Span.the_field_send) depth 12

pub Operation-field_sync : IsSync (OperationType.the_field).row
Operation-field_sync = search (sendable, crosses, OperationKind.the_field_sync, Name.the_sync, VariableDefinition-sync, Directive-sync, SelectionSet-field_sync, Span.the_field_sync) depth 12

pub Fragment-field_send : IsSend (FragmentType.the_field).row
Fragment-field_send = search (sendable, crosses, Name.the_field_send, Directive-send, SelectionSet-field_send, Span.the_field_send) depth 12

pub Fragment-field_sync : IsSync (FragmentType.the_field).row
Fragment-field_sync = search (sendable, crosses, Name.the_field_sync, Directive-sync, SelectionSet-field_sync, Span.the_field_sync) depth 12

SchemaDefinition-field_send : IsSend (SchemaDefinitionType.the_field).row
SchemaDefinition-field_send = search (sendable, crosses, Literal.the_send, Directive-send, RootOperationType.the_send, Span.the_field_send) depth 12

SchemaDefinition-field_sync : IsSync (SchemaDefinitionType.the_field).row
SchemaDefinition-field_sync = search (sendable, crosses, Literal.the_sync, Directive-sync, RootOperationType.the_sync, Span.the_field_sync) depth 12

InputValueDefinition-field_send : IsSend (InputValueDefinitionType.the_field).row
InputValueDefinition-field_send = search (sendable, crosses, Literal.the_send, Name.the_field_send, TypeRef-field_send, Value-send, Directive-send) depth 12

InputValueDefinition-send : IsSend InputValueDefinitionType.the_row
InputValueDefinition-send = search (sendable, crosses, InputValueDefinition-field_send) depth 12

InputValueDefinition-field_sync : IsSync (InputValueDefinitionType.the_field).row
InputValueDefinition-field_sync = search (sendable, crosses, Literal.the_sync, Name.the_field_sync, TypeRef-field_sync, Value-sync, Directive-sync) depth 12

InputValueDefinition-sync : IsSync InputValueDefinitionType.the_row
InputValueDefinition-sync = search (sendable, crosses, InputValueDefinition-field_sync) depth 12

FieldDefinition-field_send : IsSend (FieldDefinitionType.the_field).row
FieldDefinition-field_send = search (sendable, crosses, Literal.the_send, Name.the_field_send, InputValueDefinition-send, TypeRef-field_send, Directive-send) depth 12

FieldDefinition-send : IsSend FieldDefinitionType.the_row
FieldDefinition-send = search (sendable, crosses, FieldDefinition-field_send) depth 12

FieldDefinition-field_sync : IsSync (FieldDefinitionType.the_field).row
FieldDefinition-field_sync = search (sendable, crosses, Literal.the_sync, Name.the_field_sync, InputValueDefinition-sync, TypeRef-field_sync, Directive-sync) depth 12

FieldDefinition-sync : IsSync FieldDefinitionType.the_row
FieldDefinition-sync = search (sendable, crosses, FieldDefinition-field_sync) depth 12

EnumValueDefinition-field_send : IsSend (EnumValueDefinitionType.the_field).row
EnumValueDefinition-field_send = search (sendable, crosses, Literal.the_send, Name.the_field_send, Directive-send) depth 12

EnumValueDefinition-send : IsSend EnumValueDefinitionType.the_row
EnumValueDefinition-send = search (sendable, crosses, EnumValueDefinition-field_send) depth 12

EnumValueDefinition-field_sync : IsSync (EnumValueDefinitionType.the_field).row
EnumValueDefinition-field_sync = search (sendable, crosses, Literal.the_sync, Name.the_field_sync, Directive-sync) depth 12

EnumValueDefinition-sync : IsSync EnumValueDefinitionType.the_row
EnumValueDefinition-sync = search (sendable, crosses, EnumValueDefinition-field_sync) depth 12

FieldsAndInterfaces-field_send : IsSend (FieldsAndInterfacesType.the_field).row
FieldsAndInterfaces-field_send = search (sendable, crosses, Name.the_send, FieldDefinition-send) depth 12

FieldsAndInterfaces-field_sync : IsSync (FieldsAndInterfacesType.the_field).row
FieldsAndInterfaces-field_sync = search (sendable, crosses, Name.the_sync, FieldDefinition-sync) depth 12

TypeBody-field_send : IsSend (TypeBodyType.the_field).row
TypeBody-field_send = search (sendable, crosses, FieldsAndInterfaces-field_send, Name.the_send, EnumValueDefinition-send, InputValueDefinition-send) depth 12

TypeBody-field_sync : IsSync (TypeBodyType.the_field).row
TypeBody-field_sync = search (sendable, crosses, FieldsAndInterfaces-field_sync, Name.the_sync, EnumValueDefinition-sync, InputValueDefinition-sync) depth 12

TypeDefinition-field_send : IsSend (TypeDefinitionType.the_field).row
TypeDefinition-field_send = search (sendable, crosses, Literal.the_send, Name.the_field_send, Directive-send, TypeBody-field_send, Span.the_field_send) depth 12

TypeDefinition-field_sync : IsSync (TypeDefinitionType.the_field).row
TypeDefinition-field_sync = search (sendable, crosses, Literal.the_sync, Name.the_field_sync, Directive-sync, TypeBody-field_sync, Span.the_field_sync) depth 12

DirectiveDefinition-field_send : IsSend (DirectiveDefinitionType.the_field).row
DirectiveDefinition-field_send = search (sendable, crosses, Literal.the_send, Name.the_field_send, InputValueDefinition-send, DirectiveLocation.the_send, Span.the_field_send) depth 12

DirectiveDefinition-field_sync : IsSync (DirectiveDefinitionType.the_field).row
DirectiveDefinition-field_sync = search (sendable, crosses, Literal.the_sync, Name.the_field_sync, InputValueDefinition-sync, DirectiveLocation.the_sync, Span.the_field_sync) depth 12

TypeSystemDefinition-field_send : IsSend (TypeSystemDefinitionType.the_field).row
TypeSystemDefinition-field_send = search (sendable, crosses, SchemaDefinition-field_send, TypeDefinition-field_send, DirectiveDefinition-field_send) depth 12

TypeSystemDefinition-field_sync : IsSync (TypeSystemDefinitionType.the_field).row
TypeSystemDefinition-field_sync = search (sendable, crosses, SchemaDefinition-field_sync, TypeDefinition-field_sync, DirectiveDefinition-field_sync) depth 12

pub TypeSystemDefinition-send : IsSend TypeSystemDefinitionType.the_row
TypeSystemDefinition-send = search (sendable, crosses, TypeSystemDefinition-field_send) depth 12

pub TypeSystemDefinition-sync : IsSync TypeSystemDefinitionType.the_row
TypeSystemDefinition-sync = search (sendable, crosses, TypeSystemDefinition-field_sync) depth 12

Definition-field_send : IsSend (DefinitionType.the_field).row
Definition-field_send = search (sendable, crosses, Operation-field_send, Fragment-field_send, TypeSystemDefinition-send, TypeSystemDefinition-sync) depth 12

Definition-send : IsSend DefinitionType.the_row
Definition-send = search (sendable, crosses, Definition-field_send) depth 12

Document-field_send : IsSend (DocumentType.the_field).row
Document-field_send = search (sendable, crosses, Definition-send) depth 12

pub Parsed-send : IsSend ReadingType.the_row
Parsed-send = search (sendable, crosses, Document-field_send) depth 12

Definition-field_sync : IsSync (DefinitionType.the_field).row
Definition-field_sync = search (sendable, crosses, Operation-field_sync, Fragment-field_sync, TypeSystemDefinition-send, TypeSystemDefinition-sync) depth 12

Definition-sync : IsSync DefinitionType.the_row
Definition-sync = search (sendable, crosses, Definition-field_sync) depth 12

Document-field_sync : IsSync (DocumentType.the_field).row
Document-field_sync = search (sendable, crosses, Definition-sync) depth 12

pub Parsed-sync : IsSync ReadingType.the_row
Parsed-sync = search (sendable, crosses, Document-field_sync) depth 12
