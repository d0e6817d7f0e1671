-- Pairs of selection sets by numbers, and the pairs of fields of one key in them, computed. Of `count` sets, the pair
-- of the sets i and j has the number i * count + j.
use Rattle.std.specs.Prelude.{◌≡◌, ℕ, ◌+◌, ◌*◌, ◌/◌, ◌%◌, ◌<◌, Bool, true, false, List, ◌++◌, Contains, length, slice_index_or}
use Rattle.gq_fault.specs.declared.fault.Fault.{Fault}
use Rattle.gq_fault.specs.Adds.{AddsExactly}
use Rattle.gq_types.specs.Entries.{EntryOf}
use Rattle.gq_document.specs.FieldSets.{key}
use Rattle.gq_merging.specs.FieldsMerge.{leads_on, Differ, IsNoLater, fault_of}
use Rattle.gq_merging.specs.Helping.SetTables.{MemberOf, RowOf, IsMember, members_at, spreads_at}
use Rattle.gq_merging.specs.declared.purpose.Purpose.{Purpose}

-- two fields that meet
pub record MetOf : Type 0 where
  pub left : MemberOf
  pub right : MemberOf

-- what is looked at: selection sets, how many they are, and how many pairs of them there are
pub record LookOf : Type 0 where
  pub entries : List EntryOf
  pub purpose : Purpose
  pub rows : List RowOf
  pub count : ℕ
  pub size : ℕ

-- the one is in the first list, the other in the second, and both have one key
pub record AreMet (left right : List MemberOf) (p : MetOf) : Type 0 where
  pub stands_left : Contains left p.left
  pub stands_right : Contains right p.right
  pub one_key : key p.left.field_at ≡ key p.right.field_at

-- two fields of one key, the one of the first and the other of the second of the two sets that the number stands for
pub record IsMetAt (w : LookOf) (number : ℕ) (p : MetOf) : Type 0 where
  pub left : IsMember w.rows (number / w.count) p.left
  pub right : IsMember w.rows (number % w.count) p.right
  pub one_key : key p.left.field_at ≡ key p.right.field_at

-- the number of a pair of sets
pub record IsNumber (count size left right n : ℕ) : Type 0 where
  pub is : n ≡ left * count + right
  pub within : n < size

-- the pair of the sets in the braces of two fields that meet, where what stands in them meets too
pub record IsBelow (w : LookOf) (p : MetOf) (n : ℕ) : Type 0 where
  pub leads : leads_on w.entries w.purpose p.left.field_at p.right.field_at ≡ true
  pub number : IsNumber w.count w.size p.left.below p.right.below n

-- the pair of a set with itself, one of the first sets, which is not passed over
pub record IsStart (passed : List Bool) (count size end n : ℕ) : Type 0 where
  pub row : ℕ
  pub before : row < end
  pub stays : slice_index_or passed row false ≡ false
  pub number : IsNumber count size row row n

-- one of these gives it
pub record IsGiven {A B : Type 0} (These : A → Type 0) (Gives : A → B → Type 0) (b : B) : Type 0 where
  pub one : A
  pub these : These one
  pub gives : Gives one b

-- A pair of sets meets: that of a set that is not passed over with itself, and that of the sets in the braces of two fields that
-- meet in such a pair.
pub data IsReached (w : LookOf) (passed : List Bool) : ℕ → Type 0 where
  start : {n : ℕ} → IsStart passed w.count w.size (length passed) n → IsReached w passed n
  step : {m n : ℕ} → IsReached w passed m → IsGiven (IsMetAt w m) (IsBelow w) n → IsReached w passed n

-- two fields of one key in such a pair
pub record IsMetReached (w : LookOf) (passed : List Bool) (p : MetOf) : Type 0 where
  pub number : ℕ
  pub reached : IsReached w passed number
  pub met : IsMetAt w number p

-- a fault of two fields that meet
pub record IsFaultOf (w : LookOf) (p : MetOf) (fault : Fault) : Type 0 where
  pub differ : Differ w.entries w.purpose p.left.field_at p.right.field_at
  pub is_no_later : IsNoLater p.left.field_at p.right.field_at
  pub is : fault ≡ fault_of p.right.field_at

-- two fields of one key, the one standing in the first and the other in the second of the two sets themselves
abbrev pub IsMetIn : LookOf → ℕ → MetOf → Type 0
IsMetIn w number p = AreMet (members_at w.rows (number / w.count)) (members_at w.rows (number % w.count)) p

-- The pairs of sets that are looked at after a pair: those of the sets in the braces of two fields that meet in it, and those of
-- a fragment that is spread in the one with the other.
pub data IsAfter (w : LookOf) (m n : ℕ) : Type 0 where
  below : IsGiven (IsMetIn w m) (IsBelow w) n → IsAfter w m n
  by_left : IsGiven (Contains (spreads_at w.rows (m / w.count))) (λ left. IsNumber w.count w.size left (m % w.count)) n → IsAfter w m n
  by_right : IsGiven (Contains (spreads_at w.rows (m % w.count))) (λ right. IsNumber w.count w.size (m / w.count) right) n → IsAfter w m n

pub data IsFound (w : LookOf) (passed : List Bool) : ℕ → Type 0 where
  begins : {n : ℕ} → IsStart passed w.count w.size (length passed) n → IsFound w passed n
  leads : {m n : ℕ} → IsFound w passed m → IsAfter w m n → IsFound w passed n

-- The list afterwards: longer by some numbers of which that is true, and holding each such number.
pub record Gains (Is : ℕ → Type 0) (old new : List ℕ) : Type 0 where
  pub added : List ℕ
  pub is : new ≡ old ++ added
  pub taken : (n : ℕ) → Contains added n → Is n
  pub holds : (n : ℕ) → Is n → Contains new n

-- The faults of these fields that meet are put behind the faults, and the pairs of sets in their braces behind the numbers.
pub record Looked (w : LookOf) (These : MetOf → Type 0) (faults faults' : List Fault) (old new : List ℕ) : Type 0 where
  pub puts : AddsExactly (IsGiven These (IsFaultOf w)) faults faults'
  pub gains : Gains (IsGiven These (IsBelow w)) old new
