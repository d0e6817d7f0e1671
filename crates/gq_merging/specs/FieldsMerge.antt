-- Fields that stand under one response key must merge: they have one response shape, and where their parents can be one type
-- they have one name and identical arguments (section 5.3.2, Field Selection Merging).
use Rattle.std.specs.Prelude.{◌≡◌, ◌≢◌, ◌<◌, ◌≤◌, ◌⊎◌, ◌&&◌, ◌||◌, not, Bool, true, false, List, Option, Some, None, is_some}
use Rattle.gq_text.specs.declared.place.Span.{Span}
use Rattle.gq_tree.specs.Plain.{TypeOf}
use Rattle.gq_fault.specs.declared.code.Code.TheVariants.{FieldsDoNotMerge}
use Rattle.gq_fault.specs.declared.fault.Fault.{Fault}
use Rattle.gq_types.specs.Entries.{Text, EntryOf}
use Rattle.gq_types.specs.Joined.{kind_named}
use Rattle.gq_types.specs.LookUps.{has_kind}
use Rattle.gq_types.specs.declared.entry.TypeKind.TheVariants as kind
use Rattle.std.specs.Str.{bytes_eq}
use Rattle.gq_document.specs.Selections.{FieldOf, selected_field}
use Rattle.gq_tree.specs.NamedTypes.{base_name}
use Rattle.gq_document.specs.Executable.{ExecutableOf}
use Rattle.gq_document.specs.FieldSets.{SetOf, FieldAt, key, InSet, Stands, field_set}
use Rattle.gq_merging.specs.Shapes.{shape_of}
use Rattle.gq_merging.specs.SameArguments.{SameArguments}
use Rattle.gq_merging.specs.declared.purpose.Purpose.{Purpose}
use Rattle.gq_merging.specs.declared.purpose.Purpose.TheVariants.{Shapes, Names}

-- the one stands in the first set, the other in the second, and both have one response key
pub record HaveOneKey (x : ExecutableOf) (s t : SetOf) (a b : FieldAt) : Type 0 where
  pub first : InSet x s a
  pub second : InSet x t b
  pub one_key : key a ≡ key b

-- both types of the parents are known, and they are equal or one of them is no object type
abbrev pub can_coincide : List EntryOf → Option Text → Option Text → Bool
can_coincide es None right = false
can_coincide es (Some left) None = false
can_coincide es (Some left) (Some right) =
    is_some (kind_named es left) && is_some (kind_named es right) && (bytes_eq left right || not (has_kind es kind.Object left && has_kind es kind.Object right))

-- whether what stands in the braces of the two meets: for shapes always, for names only where their parents can coincide
abbrev pub leads_on : List EntryOf → Purpose → FieldAt → FieldAt → Bool
leads_on es Shapes a b = true
leads_on es Names a b = can_coincide es a.parent b.parent

-- Two fields meet: those of one key in one selection set that stands, and those of one key in the braces of two that meet.
pub data Meet (x : ExecutableOf) (purpose : Purpose) : FieldAt → FieldAt → Type 0 where
  together : {s : SetOf} {a b : FieldAt} → Stands x s → HaveOneKey x s s a b → Meet x purpose a b
  deeper : {a b c d : FieldAt} → Meet x purpose a b → leads_on x.entries purpose a b ≡ true →
      HaveOneKey x (field_set x.entries a) (field_set x.entries b) c d → Meet x purpose c d

-- the type of a field, where the field and the type at the end are known
pub record HasType (es : List EntryOf) (f : FieldAt) (type_ref : TypeOf Span) : Type 0 where
  pub definition : FieldOf
  pub is_known : selected_field es f.parent f.name.text ≡ Some definition
  pub is : definition.type_ref ≡ type_ref
  pub end_is_known : is_some (kind_named es (base_name type_ref)) ≡ true

-- one call: the same field with identical arguments
pub record IsSameCall (a b : FieldAt) : Type 0 where
  pub one_name : a.name.text ≡ b.name.text
  pub same_arguments : SameArguments a.arguments b.arguments

-- what two fields that meet may not be
pub data Differ (es : List EntryOf) : Purpose → FieldAt → FieldAt → Type 0 where
  in_shape : {a b : FieldAt} (left right : TypeOf Span) → HasType es a left → HasType es b right → shape_of es left ≢ shape_of es right → Differ es Shapes a b
  in_call : {a b : FieldAt} → can_coincide es a.parent b.parent ≡ true → (IsSameCall a b → ⊥) → Differ es Names a b

-- it stands no later: by the document, then by the place of all its tokens
abbrev pub IsNoLater : FieldAt → FieldAt → Type 0
IsNoLater a b = (a.file < b.file) ⊎ ((a.file ≡ b.file) × (a.place.start ≤ b.place.start))

-- the fault of a field is at its name
abbrev pub fault_of : FieldAt → Fault
fault_of f = record { file = f.file; start = f.name.place.start; code = FieldsDoNotMerge; end = f.name.place.end }

-- the later one of two fields that meet and differ
pub record IsFaultFor (x : ExecutableOf) (purpose : Purpose) (fault : Fault) : Type 0 where
  pub first : FieldAt
  pub later : FieldAt
  pub meet : Meet x purpose first later
  pub differ : Differ x.entries purpose first later
  pub is_no_later : IsNoLater first later
  pub is : fault ≡ fault_of later

pub data IsMergingFault (x : ExecutableOf) (fault : Fault) : Type 0 where
  of_shapes : IsFaultFor x Shapes fault → IsMergingFault x fault
  of_names : IsFaultFor x Names fault → IsMergingFault x fault
