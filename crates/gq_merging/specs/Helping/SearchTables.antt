-- Groups of selection sets whose fields meet, and what the search over them finds, computed.
use Rattle.std.specs.Prelude.{◌≡◌, ◌↔◌, ◌⊎◌, ℕ, ◌<◌, ◌≤◌, Bool, true, false, List, [], ◌∷◌, ◌++◌, Option, Some, None, if◌then◌else◌, IfSome, IfNone, Contains, length, take, slice_get, slice_index_or}
use Rattle.gq_fault.specs.declared.fault.Fault.{Fault}
use Rattle.gq_document.specs.FieldSets.{key}
use Rattle.gq_merging.specs.FieldsMerge.{leads_on, IsNoLater}
use Rattle.gq_merging.specs.Helping.Comparisons.{is_no_later}
use Rattle.gq_merging.specs.Helping.SetTables.{MemberOf, RowOf, members_at, IsMember}
use Rattle.gq_merging.specs.Helping.GroupTables.{IsOfGroup, IsUnder}
use Rattle.gq_merging.specs.Helping.PairTables.{MetOf, LookOf, AreMet, IsGiven, IsMetReached, IsFaultOf}

-- the earliest one of the fields for which that is true, where there is one; of each it is known whether it is true
pub record IsEarliest (Is : MemberOf → Type 0) (ms : List MemberOf) (earliest : Option MemberOf) : Type 0 where
  pub decided : (m : MemberOf) → Contains ms m → Is m ⊎ (Is m → ⊥)
  pub is_one : IfSome earliest (λ e. Contains ms e × Is e)
  pub no_later : IfSome earliest (λ e. (m : MemberOf) → Contains ms m → Is m → IsNoLater e.field_at m.field_at)
  pub none : IfNone earliest ((m : MemberOf) → Contains ms m → Is m → ⊥)

-- the earlier one of what was found so far and a field, if that counts
abbrev pub earlier_of : Bool → Option MemberOf → MemberOf → Option MemberOf
earlier_of false so_far m = so_far
earlier_of true None m = Some m
earlier_of true (Some e) m = if is_no_later e.field_at m.field_at then Some e else Some m

-- the one, and one of the others
pub record IsWith (one : MemberOf) (ms : List MemberOf) (p : MetOf) : Type 0 where
  pub is : p.left ≡ one
  pub stands : Contains ms p.right

-- all have one key
pub record AreOfOneKey (ms : List MemberOf) : Type 0 where
  pub each : (a b : MemberOf) → Contains ms a → Contains ms b → key a.field_at ≡ key b.field_at

-- All have one key, and what stands in the braces of any two of them meets.
pub record IsClique (w : LookOf) (ms : List MemberOf) : Type 0 where
  pub one_key : AreOfOneKey ms
  pub lead : (a b : MemberOf) → Contains ms a → Contains ms b → leads_on w.entries w.purpose a.field_at b.field_at ≡ true

-- both are fields of the group, and have one key
pub record AreInGroup (rows : List RowOf) (group : List ℕ) (p : MetOf) : Type 0 where
  pub left : IsOfGroup rows group p.left
  pub right : IsOfGroup rows group p.right
  pub one_key : key p.left.field_at ≡ key p.right.field_at

-- the same for one of the groups
pub record AreInOne (rows : List RowOf) (groups : List (List ℕ)) (p : MetOf) : Type 0 where
  pub group : List ℕ
  pub is_group : Contains groups group
  pub inside : AreInGroup rows group p

-- both are among the fields of one of the lists, and have one key
pub record AreMetInOne (lists : List (List MemberOf)) (p : MetOf) : Type 0 where
  pub list : List MemberOf
  pub is_list : Contains lists list
  pub met : AreMet list list p

-- it stands in the braces of one of these fields
pub record IsBelowOne (rows : List RowOf) (ms : List MemberOf) (m : MemberOf) : Type 0 where
  pub above : MemberOf
  pub stands : Contains ms above
  pub below : IsMember rows above.below m

-- both do, and have one key
pub record AreBelowThese (rows : List RowOf) (ms : List MemberOf) (q : MetOf) : Type 0 where
  pub left : IsBelowOne rows ms q.left
  pub right : IsBelowOne rows ms q.right
  pub one_key : key q.left.field_at ≡ key q.right.field_at

-- two fields of one key in the braces of two that meet, of which what stands there meets
pub record AreUnder (w : LookOf) (p q : MetOf) : Type 0 where
  pub leads : leads_on w.entries w.purpose p.left.field_at p.right.field_at ≡ true
  pub left : IsMember w.rows p.left.below q.left
  pub right : IsMember w.rows p.right.below q.right
  pub one_key : key q.left.field_at ≡ key q.right.field_at

-- The groups afterwards: some more, in which two fields of one key stand only if that is true of them, and all groups hold any two of
-- which it is.
pub record Grows (rows : List RowOf) (Is : MetOf → Type 0) (old new : List (List ℕ)) : Type 0 where
  pub added : List (List ℕ)
  pub is : new ≡ old ++ added
  pub taken : (q : MetOf) → AreInOne rows added q → Is q
  pub holds : (q : MetOf) → Is q → AreInOne rows new q

-- The faults of these fields that meet stand among the faults now, and what stands in their braces in the groups; no other faults are
-- there than before, and no more groups than for these.
pub record Searched (w : LookOf) (These : MetOf → Type 0) (faults faults' : List Fault) (old new : List (List ℕ)) : Type 0 where
  pub tells : (fault : Fault) → Contains faults' fault ↔ (Contains faults fault ⊎ IsGiven These (IsFaultOf w) fault)
  pub grows : Grows w.rows (IsGiven These (AreUnder w)) old new

-- an earlier group is the same
pub record WasThere (groups : List (List ℕ)) (place : ℕ) : Type 0 where
  pub earlier : ℕ
  pub before : earlier < place
  pub same : slice_get groups earlier ≡ slice_get groups place

-- the group of one set that has the fields of one that is not passed over
pub record IsFirst (rows : List RowOf) (passed : List Bool) (end : ℕ) (group : List ℕ) : Type 0 where
  pub number : ℕ
  pub before : number < end
  pub stays : slice_index_or passed number false ≡ false
  pub same : ℕ
  pub is : group ≡ same ∷ []
  pub over : (m : MemberOf) → IsMember rows same m → IsMember rows number m

-- a group has the fields of the set with that number
pub record HasFields (rows : List RowOf) (groups : List (List ℕ)) (number : ℕ) : Type 0 where
  pub group : List ℕ
  pub is_group : Contains groups group
  pub under : IsUnder rows number group

-- these are the groups of the sets that are not passed over
pub record AreFirst (rows : List RowOf) (passed : List Bool) (end : ℕ) (groups : List (List ℕ)) : Type 0 where
  pub only : (group : List ℕ) → Contains groups group → IsFirst rows passed end group
  pub each : (number : ℕ) → number < end → slice_index_or passed number false ≡ false → HasFields rows groups number

-- each field has a set in its braces
abbrev pub HaveSets : List RowOf → Type 0
HaveSets rows = (n : ℕ) (m : MemberOf) → Contains (members_at rows n) m → m.below < length rows

-- The first groups are done: their faults are put, and groups of what stands in the braces of their fields are there.
pub record Search (w : LookOf) (passed : List Bool) (first : List (List ℕ)) (faults : List Fault) (groups : List (List ℕ)) (done : ℕ) : Type 0 where
  pub most : done ≤ length groups
  pub sound : (q : MetOf) → AreInOne w.rows groups q → IsMetReached w passed q
  pub searched : Searched w (AreInOne w.rows (take done groups)) [] faults first groups
