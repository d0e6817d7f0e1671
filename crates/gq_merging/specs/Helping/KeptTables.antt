-- What the search keeps of fragments that are spread together, computed.
use Rattle.std.specs.Prelude.{◌≡◌, ◌↔◌, ◌⊎◌, ℕ, List, ◌++◌, Some, Contains, map, slice_get}
use Rattle.gq_fault.specs.declared.fault.Fault.{Fault}
use Rattle.gq_types.specs.Entries.{Text}
use Rattle.gq_document.specs.FieldSets.{key}
use Rattle.gq_merging.specs.Helping.SetTables.{MemberOf, RowOf}
use Rattle.gq_merging.specs.Helping.GroupTables.{IsOfGroup}
use Rattle.gq_merging.specs.Helping.PairTables.{MetOf, LookOf}
use Rattle.gq_merging.specs.Helping.NameTables.{ByNameOf, by_name_view, fields_with}
use Rattle.gq_merging.specs.Helping.SearchTables.{AreInGroup, Searched}
use Rattle.gq_merging.specs.declared.kept.Table.{Table}

-- fragments, and fields by their keys
pub record KeptOf : Type 0 where
  pub fragments : List ℕ
  pub fields : ByNameOf

abbrev pub table_view : Table → KeptOf
table_view t = record { fragments = t.fragments.items; fields = by_name_view t.fields }

abbrev pub tables_view : List Table → List KeptOf
tables_view ts = map table_view ts

-- in the list of a name stand only fields of which it is the key
pub record AreByTheirKeys (t : ByNameOf) : Type 0 where
  pub each : (text : Text) (m : MemberOf) → Contains (fields_with t text) m → key m.field_at ≡ text

-- in the list of each key stand the fields that have it, of those that the fragments reach
pub record IsTableOf (rows : List RowOf) (fragments : List ℕ) (t : ByNameOf) : Type 0 where
  pub each : (text : Text) (m : MemberOf) → Contains (fields_with t text) m ↔ (IsOfGroup rows fragments m × (key m.field_at ≡ text))

-- It is the table of its fragments, and the fields that they reach were looked at: of those that meet, the faults are among the faults,
-- and what stands in their braces is in the groups.
pub record IsKept (w : LookOf) (faults : List Fault) (groups : List (List ℕ)) (k : KeptOf) : Type 0 where
  pub table : IsTableOf w.rows k.fragments k.fields
  pub searched : Searched w (AreInGroup w.rows k.fragments) faults faults groups groups

-- the same of each table
abbrev pub AreKept : LookOf → List Fault → List (List ℕ) → List KeptOf → Type 0
AreKept w faults groups ks = (k : KeptOf) → Contains ks k → IsKept w faults groups k

-- at that place is the table of these fragments
pub record IsTableAt (ks : List KeptOf) (place : ℕ) (fragments : List ℕ) : Type 0 where
  pub table : KeptOf
  pub at : slice_get ks place ≡ Some table
  pub is : table.fragments ≡ fragments

-- the table is put there, and all others are older
pub record ArePut (old new : List KeptOf) (place : ℕ) (k : KeptOf) : Type 0 where
  pub at : slice_get new place ≡ Some k
  pub others : (j : KeptOf) → Contains new j → Contains old j ⊎ (j ≡ k)

-- both stand in the list or are those that the table has for its key, and both have that key
pub record AreMetBeside (list : List MemberOf) (t : ByNameOf) (p : MetOf) : Type 0 where
  pub one : MemberOf
  pub stands : Contains list one
  pub same : key one.field_at ≡ key p.left.field_at
  pub left : Contains (list ++ fields_with t (key p.left.field_at)) p.left
  pub right : Contains (list ++ fields_with t (key p.left.field_at)) p.right
  pub one_key : key p.left.field_at ≡ key p.right.field_at

-- the same for one of the lists
pub record AreMetBesideOne (lists : List (List MemberOf)) (t : ByNameOf) (p : MetOf) : Type 0 where
  pub list : List MemberOf
  pub is_list : Contains lists list
  pub met : AreMetBeside list t p
