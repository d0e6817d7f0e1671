-- Groups of selection sets whose fields stand together, computed.
use Rattle.std.specs.Prelude.{◌≡◌, ℕ, ◌<◌, ◌≤◌, Bool, true, false, List, [], ◌∷◌, ◌++◌, Option, Some, All, Contains, length, take, position, slice_get, slice_index_or}
use Rattle.std.specs.Option.{option_map}
use Rattle.std.specs.Str.{bytes_eq}
use Rattle.gq_tree.specs.Plain.{erase_values}
use Rattle.gq_graph.specs.Reach.{Reach}
use Rattle.gq_types.specs.Entries.{Text, EntryOf}
use Rattle.gq_document.specs.FieldSets.{FieldAt, key}
use Rattle.gq_merging.specs.Shapes.{Shape, shape_of}
use Rattle.gq_merging.specs.Helping.Comparisons.{known_type}
use Rattle.gq_merging.specs.Helping.SetTables.{MemberOf, RowOf, members_at, spreads_at, IsMember}

-- a field of one of the sets of a group, or of a fragment that they reach by spreads
pub record IsOfGroup (rows : List RowOf) (group : List ℕ) (m : MemberOf) : Type 0 where
  pub reached : ℕ
  pub reach : Reach group (spreads_at rows) reached
  pub stands : Contains (members_at rows reached) m

-- the shape of a field, where its type is known
abbrev pub known_shape : List EntryOf → FieldAt → Option Shape
known_shape es f = option_map (shape_of es) (known_type es f)

-- Two fields say the same: one name, the same arguments in one order, places aside, and one shape. That is more than the
-- rule asks, and a field that says the same as two others shows that these say the same.
pub record SayTheSame (es : List EntryOf) (a b : FieldAt) : Type 0 where
  pub one_name : a.name.text ≡ b.name.text
  pub one_row : erase_values a.arguments ≡ erase_values b.arguments
  pub one_shape : known_shape es a ≡ known_shape es b

-- all fields of the set with that number are of the group
pub record IsUnder (rows : List RowOf) (number : ℕ) (group : List ℕ) : Type 0 where
  pub each : (m : MemberOf) → IsMember rows number m → IsOfGroup rows group m

-- each number in the groups has a row
abbrev pub AreBelow : List RowOf → List (List ℕ) → Type 0
AreBelow rows groups = All (λ group. All (λ n. n < length rows) group) groups

-- fields by their keys: each key, the first field that has it, and the sets in the braces of all that have it
pub record ClassesOf : Type 0 where
  pub keys : List Text
  pub firsts : List MemberOf
  pub groups : List (List ℕ)

-- a field has a class at the first place of its key: it says the same as the first field there, and its set is under the group
pub record HasClass (es : List EntryOf) (rows : List RowOf) (classes : ClassesOf) (m : MemberOf) : Type 0 where
  pub place : ℕ
  pub is : position (bytes_eq (key m.field_at)) classes.keys ≡ Some place
  pub first : MemberOf
  pub is_first : slice_get classes.firsts place ≡ Some first
  pub same : SayTheSame es first.field_at m.field_at
  pub group : List ℕ
  pub is_group : slice_get classes.groups place ≡ Some group
  pub under : IsUnder rows m.below group

-- there are as many of each as keys, and each number has a row
pub record AreClasses (rows : List RowOf) (classes : ClassesOf) : Type 0 where
  pub firsts_count : length classes.firsts ≡ length classes.keys
  pub groups_count : length classes.groups ≡ length classes.keys
  pub range : AreBelow rows classes.groups

-- these fields have their classes
pub record HaveClasses (es : List EntryOf) (rows : List RowOf) (classes : ClassesOf) (ms : List MemberOf) : Type 0 where
  pub each : (m : MemberOf) → Contains ms m → HasClass es rows classes m

-- one field more has its class
pub record Takes (es : List EntryOf) (rows : List RowOf) (m : MemberOf) (old new : ClassesOf) : Type 0 where
  pub have : (ms : List MemberOf) → HaveClasses es rows old ms → HaveClasses es rows new (ms ++ m ∷ [])

-- two fields say the same, and what stands in their braces stands together in one of the groups
pub record GoTogether (es : List EntryOf) (rows : List RowOf) (groups : List (List ℕ)) (a b : MemberOf) : Type 0 where
  pub same : SayTheSame es a.field_at b.field_at
  pub group : List ℕ
  pub is_group : Contains groups group
  pub left : IsUnder rows a.below group
  pub right : IsUnder rows b.below group

-- any two of these fields that have one key do so
pub record AreSettled (es : List EntryOf) (rows : List RowOf) (groups : List (List ℕ)) (ms : List MemberOf) : Type 0 where
  pub each : (a b : MemberOf) → Contains ms a → Contains ms b → key a.field_at ≡ key b.field_at → GoTogether es rows groups a b

-- the same of the fields of a group
pub record IsSettled (es : List EntryOf) (rows : List RowOf) (groups : List (List ℕ)) (group : List ℕ) : Type 0 where
  pub each : (a b : MemberOf) → IsOfGroup rows group a → IsOfGroup rows group b → key a.field_at ≡ key b.field_at → GoTogether es rows groups a b

-- one of the groups reaches the number
pub record IsReached (rows : List RowOf) (groups : List (List ℕ)) (number : ℕ) : Type 0 where
  pub group : List ℕ
  pub is_group : Contains groups group
  pub reach : Reach group (spreads_at rows) number

-- The first groups of a test are settled, and the numbers are reached. Others are known to be settled from earlier tests.
pub record IsTest (es : List EntryOf) (rows : List RowOf) (groups : List (List ℕ)) (done : ℕ) (reached : List ℕ) : Type 0 where
  pub range : AreBelow rows groups
  pub most : done ≤ length groups
  pub known : List (List ℕ)
  pub known_settled : All (IsSettled es rows (groups ++ known)) known
  pub settled : All (IsSettled es rows (groups ++ known)) (take done groups)
  pub within : All (λ n. n < length rows) reached
  pub from_groups : All (IsReached rows groups) reached

-- all groups are settled, between two tests
abbrev pub ArePassed : List EntryOf → List RowOf → List (List ℕ) → Type 0
ArePassed es rows groups = IsTest es rows groups (length groups) []

-- some groups that are all settled reach the number
pub record IsTested (es : List EntryOf) (rows : List RowOf) (number : ℕ) : Type 0 where
  pub groups : List (List ℕ)
  pub settled : All (IsSettled es rows groups) groups
  pub is_reached : IsReached rows groups number

-- the marked ones are such
pub record AreTested (es : List EntryOf) (rows : List RowOf) (marks : List Bool) : Type 0 where
  pub count : length marks ≡ length rows
  pub tested : (n : ℕ) → slice_index_or marks n false ≡ true → IsTested es rows n

-- a group need not be looked at: nothing is in it, an earlier one is the same, or it is one set that is marked
pub data IsKnown (groups : List (List ℕ)) (marks : List Bool) (place : ℕ) : Type 0 where
  as_empty : slice_get groups place ≡ Some [] → IsKnown groups marks place
  as_before : (earlier : ℕ) → earlier < place → slice_get groups earlier ≡ slice_get groups place → IsKnown groups marks place
  as_marked : (n : ℕ) → slice_get groups place ≡ Some (n ∷ []) → slice_index_or marks n false ≡ true → IsKnown groups marks place

-- it is one set that is marked
pub record IsMarkedOne (group : List ℕ) (marks : List Bool) : Type 0 where
  pub number : ℕ
  pub is : group ≡ number ∷ []
  pub marked : slice_index_or marks number false ≡ true

-- in the set with that number stands the spread of one fragment, and nothing else
pub record IsThrough (rows : List RowOf) (number fragment : ℕ) : Type 0 where
  pub none : members_at rows number ≡ []
  pub one : spreads_at rows number ≡ fragment ∷ []

-- the same of a fragment that is marked
pub record IsThroughMarked (rows : List RowOf) (number : ℕ) (marks : List Bool) : Type 0 where
  pub fragment : ℕ
  pub through : IsThrough rows number fragment
  pub marked : slice_index_or marks fragment false ≡ true

-- these are what is reached from the numbers of the group
pub record AreReached (next : ℕ → List ℕ) (group found : List ℕ) : Type 0 where
  pub sound : All (λ n. Reach group next n) found
  pub complete : (n : ℕ) → Reach group next n → Contains found n
