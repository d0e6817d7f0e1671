-- Root operation types (section 3.3.1): each kind of operation has at most one, it is an object type, and all are different
-- types. A default root stands before the entries of a schema. An entry whose kind has a root already counts for nothing
-- else.
use Rattle.std.specs.Prelude.{◌≡◌, ◌≢◌, ℕ, ◌<◌, ◌≤◌, List, Some, length}
use Rattle.gq_text.specs.declared.place.Span.{Span}
use Rattle.gq_fault.specs.declared.code.Code.TheVariants.{EmptyOrRepeated, WrongKindOfType}
use Rattle.gq_fault.specs.declared.fault.Fault.{Fault}
use Rattle.gq_names.specs.Repeats.{StandsAt}
use Rattle.gq_tree.specs.declared.tree.OperationKind.{OperationKind}
use Rattle.gq_tree.specs.Plain.{RootOf}
use Rattle.gq_types.specs.declared.entry.TypeKind.{TypeKind}
use Rattle.gq_types.specs.declared.entry.TypeKind.TheVariants as kind
use Rattle.gq_types.specs.Entries.{Text, EntryOf}
use Rattle.gq_types.specs.Joined.{In, kind_named}
use Rattle.gq_fault.specs.FaultPlaces.{fault_at}
use Rattle.gq_types.specs.Roots.{roots_of, default_root}

-- a kind of operation has a root before a place: a default root, or an earlier entry
pub data HasRoot (es : List EntryOf) (roots : List (In (RootOf Span))) (place : ℕ) (operation : OperationKind) : Type 0 where
  has_default : {text : Text} → default_root es operation ≡ Some text → HasRoot es roots place operation
  has_entry : {earlier : ℕ} {other : In (RootOf Span)} → StandsAt roots earlier other → earlier < place → other.it.kind ≡ operation → HasRoot es roots place operation

-- an entry whose kind of operation has no root before it
pub record IsFirstRoot (es : List EntryOf) (roots : List (In (RootOf Span))) (place : ℕ) (root : In (RootOf Span)) : Type 0 where
  pub stands : StandsAt roots place root
  pub is_first : HasRoot es roots place root.it.kind → ⊥

-- a type is a root before a place: a default root, or that of an earlier entry that counts
pub data IsRoot (es : List EntryOf) (roots : List (In (RootOf Span))) (place : ℕ) (text : Text) : Type 0 where
  is_default : (operation : OperationKind) → default_root es operation ≡ Some text → IsRoot es roots place text
  is_entry : {earlier : ℕ} {other : In (RootOf Span)} → IsFirstRoot es roots earlier other → earlier < place → other.it.name.text ≡ text → IsRoot es roots place text

-- An entry whose kind of operation has a root before it. The number is that of an entry, or the number after the last,
-- to which schema extensions belong where there is no schema definition.
pub record IsRepeatedRoot (es : List EntryOf) (fault : Fault) : Type 0 where
  pub number : ℕ
  pub is_number : number ≤ length es
  pub place : ℕ
  pub root : In (RootOf Span)
  pub stands : StandsAt (roots_of es number) place root
  pub has_root : HasRoot es (roots_of es number) place root.it.kind
  pub is : fault ≡ fault_at root.file EmptyOrRepeated root.it.name

-- an entry whose type is no object type
pub record IsNoObject (es : List EntryOf) (fault : Fault) : Type 0 where
  pub number : ℕ
  pub is_number : number ≤ length es
  pub place : ℕ
  pub root : In (RootOf Span)
  pub counts : IsFirstRoot es (roots_of es number) place root
  pub of_kind : TypeKind
  pub is_known : kind_named es root.it.name.text ≡ Some of_kind
  pub is_no_object : of_kind ≢ kind.Object
  pub is : fault ≡ fault_at root.file WrongKindOfType root.it.name

-- an entry whose type is a root before it
pub record IsSharedRoot (es : List EntryOf) (fault : Fault) : Type 0 where
  pub number : ℕ
  pub is_number : number ≤ length es
  pub place : ℕ
  pub root : In (RootOf Span)
  pub counts : IsFirstRoot es (roots_of es number) place root
  pub of_kind : TypeKind
  pub is_known : kind_named es root.it.name.text ≡ Some of_kind
  pub is_shared : IsRoot es (roots_of es number) place root.it.name.text
  pub is : fault ≡ fault_at root.file WrongKindOfType root.it.name
