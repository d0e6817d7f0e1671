-- Types and definitions may be lent to several threads: shown from their parts.
use denote.Ref.{NamedLft}
use denote.Param.Send.{IsSend, IsSync, sendable}
use Rattle.std.proofs.Crossing.{crosses}
use Rattle.gq_tree.proofs.Crossing.{Operation-field_sync, Fragment-field_sync, TypeSystemDefinition-send, TypeSystemDefinition-sync}
use Rattle.gq_tree.proofs.tree.Name.TheSendSync as Name
use Rattle.gq_tree.proofs.types.TypeRef.TheLaws.TheKnot.{sync-TypeRef}
use Rattle.gq_tree.specs.contracts.types.TypeRef as TypeRef
use Rattle.gq_document.specs.contracts.executable.Executable as Executable
use Rattle.gq_document.specs.contracts.definitions.OperationEntry as OperationEntry
use Rattle.gq_document.specs.contracts.definitions.FragmentEntry as FragmentEntry
use Rattle.gq_types.specs.contracts.entry.Entry as Entry
use Rattle.gq_types.specs.contracts.definitions.Definitions as Definitions
use Rattle.gq_types.specs.contracts.types.Types as Types
use Rattle.gq_types.proofs.entry.TypeKind.TheSendSync as TypeKind
use Rattle.gq_types.proofs.table.Table.TheSendSync as Table
use Rattle.gq_types.proofs.uses.Uses.TheSendSync as Uses
use Rattle.gq_types.proofs.parts.Parts.TheSendSync as Parts
use Rattle.gq_types.proofs.parts.Place.TheSendSync as Place
use Rattle.gq_names.proofs.by_name.ByName.TheSendSync as ByName

Entry-field_sync : IsSync (Entry.the_field).row
Entry-field_sync = search (sendable, crosses, TypeSystemDefinition-send, TypeSystemDefinition-sync) depth 12

Entry-sync : IsSync Entry.the_row
Entry-sync = search (sendable, crosses, Entry-field_sync) depth 12

Definitions-field_sync : IsSync (Definitions.the_field).row
Definitions-field_sync = search (sendable, crosses, Entry-sync, Table.the_field_sync, TypeKind.the_sync, TypeKind.the_field_sync) depth 20

TypeRef-field_sync : IsSync (TypeRef.the_field).row
TypeRef-field_sync = search (sendable, crosses, sync-TypeRef, Name.the_field_sync) depth 12

Types-field_sync : IsSync (Types.the_field).row
Types-field_sync = search (sendable, crosses, Definitions-field_sync, Table.the_field_sync, Table.the_sync, Place.the_field_sync, Place.the_sync, Parts.the_sync, ByName.the_sync, Uses.the_field_sync, TypeRef-field_sync) depth 20

pub Types-sync : IsSync Types.the_row
Types-sync = search (sendable, crosses, Types-field_sync) depth 12

OperationEntry-field_sync : (ℓ : NamedLft) → IsSync (OperationEntry.the_field ℓ).row
OperationEntry-field_sync ℓ = search (sendable, crosses, Operation-field_sync) depth 12

OperationEntry-sync : (ℓ : NamedLft) → IsSync (OperationEntry.the_row ℓ)
OperationEntry-sync ℓ = search (sendable, crosses, OperationEntry-field_sync) depth 12

FragmentEntry-field_sync : (ℓ : NamedLft) → IsSync (FragmentEntry.the_field ℓ).row
FragmentEntry-field_sync ℓ = search (sendable, crosses, Fragment-field_sync) depth 12

FragmentEntry-sync : (ℓ : NamedLft) → IsSync (FragmentEntry.the_row ℓ)
FragmentEntry-sync ℓ = search (sendable, crosses, FragmentEntry-field_sync) depth 12

Executable-field_sync : (ℓ : NamedLft) → IsSync (Executable.the_field ℓ).row
Executable-field_sync ℓ = search (sendable, crosses, Types-sync, OperationEntry-sync, FragmentEntry-sync) depth 12

pub Executable-sync : (ℓ : NamedLft) → IsSync (Executable.the_row ℓ)
Executable-sync ℓ = search (sendable, crosses, Executable-field_sync) depth 12
