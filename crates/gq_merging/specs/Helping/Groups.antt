-- Selection sets under which all fields merge, for which pairs of fields need not be looked at.
use Rattle.std.specs.Prelude.{◌≡◌, ℕ, Bool, false, true, List, Some, length, map, slice_get, slice_index_or}
use Rattle.gq_document.specs.Executable.{ExecutableOf}
use Rattle.gq_document.specs.FieldSets.{SetOf, FieldAt, field_set}
use Rattle.gq_merging.specs.FieldsMerge.{HaveOneKey, leads_on, Differ}
use Rattle.gq_merging.specs.Helping.SetTables.{RowOf}
use Rattle.gq_merging.specs.declared.purpose.Purpose.{Purpose}

-- Two fields meet from a set: those of one key in it, and those of one key in the braces of two that meet.
pub data MeetFrom (x : ExecutableOf) (purpose : Purpose) (s : SetOf) : FieldAt → FieldAt → Type 0 where
  together : {a b : FieldAt} → HaveOneKey x s s a b → MeetFrom x purpose s a b
  deeper : {a b c d : FieldAt} → MeetFrom x purpose s a b → leads_on x.entries purpose a b ≡ true →
      HaveOneKey x (field_set x.entries a) (field_set x.entries b) c d → MeetFrom x purpose s c d

-- no two fields that meet from the set differ
pub record IsMerged (x : ExecutableOf) (s : SetOf) : Type 0 where
  pub none : (purpose : Purpose) (a b : FieldAt) → MeetFrom x purpose s a b → Differ x.entries purpose a b → ⊥

-- the marked ones of these sets are merged
pub record AreMerged (x : ExecutableOf) (rows : List RowOf) (marks : List Bool) : Type 0 where
  pub count : length marks ≡ length rows
  pub merged : (n : ℕ) (s : SetOf) → slice_get (map (λ r. r.set) rows) n ≡ Some s → slice_index_or marks n false ≡ true → IsMerged x s
