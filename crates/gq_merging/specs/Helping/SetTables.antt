-- Selection sets with the fields and spreads that stand in them at once, computed.
use Rattle.std.specs.Prelude.{◌≡◌, ◌⊎◌, ℕ, ◌+◌, ◌≤◌, List, [], ◌∷◌, ◌++◌, Option, Some, All, Contains, IfSome, length, map, slice_get}
use Rattle.std.specs.Option.{option_map_or}
use Rattle.gq_text.specs.declared.place.Span.{Span}
use Rattle.gq_tree.specs.Forest.{none, more}
use Rattle.gq_tree.specs.Plain.{Head, field, spread, inline, Sel, Sels}
use Rattle.gq_graph.specs.Reach.{Reach}
use Rattle.gq_spreads.specs.Spreads.{places_from}
use Rattle.gq_types.specs.Entries.{Text, EntryOf}
use Rattle.gq_document.specs.Executable.{ExecutableOf}
use Rattle.gq_document.specs.FieldSets.{SetOf, FieldAt, narrowed, operation_set, fragment_set, field_set, InSet, Stands}

-- the fields of selections, those in inline fragments among them, without those in fragments that are spread
abbrev pub own_fields : ℕ → Option Text → Sels Span → List FieldAt
own_fields file parent none = []
own_fields file parent (more (field alias name arguments directives braces place) below rest) =
    record { file = file; parent = parent; alias = alias; name = name; arguments = arguments; place = place; below = below } ∷ own_fields file parent rest
own_fields file parent (more (spread name directives place) below rest) = own_fields file parent rest
own_fields file parent (more (inline on directives braces place) below rest) = own_fields file (narrowed on parent) below ++ own_fields file parent rest

abbrev pub own_fields_in : ℕ → Option Text → Head Span → Sels Span → List FieldAt
own_fields_in file parent (field alias name arguments directives braces place) below =
    record { file = file; parent = parent; alias = alias; name = name; arguments = arguments; place = place; below = below } ∷ []
own_fields_in file parent (spread name directives place) below = []
own_fields_in file parent (inline on directives braces place) below = own_fields file (narrowed on parent) below

abbrev pub own_fields_at : ℕ → Option Text → Sel Span → List FieldAt
own_fields_at file parent s = own_fields_in file parent s.label s.below

-- the numbers of the fragments that are spread in selections, those of inline fragments among them
abbrev pub own_spreads : List Text → Sels Span → List ℕ
own_spreads names none = []
own_spreads names (more (field alias name arguments directives braces place) below rest) = own_spreads names rest
own_spreads names (more (spread name directives place) below rest) = places_from 0 name.text names ++ own_spreads names rest
own_spreads names (more (inline on directives braces place) below rest) = own_spreads names below ++ own_spreads names rest

-- how many fields stand in selections, at any depth
abbrev pub weight : Sels Span → ℕ
weight none = 0
weight (more (field alias name arguments directives braces place) below rest) = 1 + (weight below + weight rest)
weight (more (spread name directives place) below rest) = weight rest
weight (more (inline on directives braces place) below rest) = weight below + weight rest

-- that, and the number of the sets, or of the fields
abbrev pub weights : List SetOf → ℕ
weights [] = 0
weights (s ∷ ss) = 1 + (weight s.selections + weights ss)

abbrev pub field_weights : List FieldAt → ℕ
field_weights [] = 0
field_weights (f ∷ fs) = 1 + (weight f.below + field_weights fs)

-- a field, and the number of the selection set in its braces
pub record MemberOf : Type 0 where
  pub field_at : FieldAt
  pub below : ℕ

-- a selection set, its own fields, and the numbers of the fragments spread in it
pub record RowOf : Type 0 where
  pub set : SetOf
  pub members : List MemberOf
  pub spreads : List ℕ

-- the sets of fragments, then those of operations
abbrev pub first_sets : ExecutableOf → List SetOf
first_sets x = map fragment_set x.fragments ++ map (operation_set x.entries) x.operations

-- The two are one, or nothing stands in either. Fields without selections share a set.
abbrev pub AreAlike : SetOf → SetOf → Type 0
AreAlike s t = (s ≡ t) ⊎ ((s.selections ≡ none) × (t.selections ≡ none))

-- each field is there with the number of a set like its own
pub record HasNumber (es : List EntryOf) (sets : List SetOf) (m : MemberOf) : Type 0 where
  pub set : SetOf
  pub is_set : slice_get sets m.below ≡ Some set
  pub alike : AreAlike set (field_set es m.field_at)

-- the number, where there is one, is that of a set in which nothing stands
abbrev pub IsEmptyAt : List SetOf → Option ℕ → Type 0
IsEmptyAt sets empty = IfSome empty (λ number. (s : SetOf) × (slice_get sets number ≡ Some s) × (s.selections ≡ none))

-- The set of a field is put behind the others, and has that number; or it has that of another one, and nothing stands in
-- either.
pub data IsPut (es : List EntryOf) (f : FieldAt) (sets new : List SetOf) (number : ℕ) : Type 0 where
  own : new ≡ sets ++ field_set es f ∷ [] → number ≡ length sets → IsPut es f sets new number
  shared : {s : SetOf} → new ≡ sets → f.below ≡ none → slice_get sets number ≡ Some s → s.selections ≡ none → IsPut es f sets new number

-- a set is that of one of these fields
pub record IsOfOne (es : List EntryOf) (fs : List FieldAt) (s : SetOf) : Type 0 where
  pub one : FieldAt
  pub stands : Contains fs one
  pub is_set : s ≡ field_set es one

-- the fields with the numbers of their sets, for which sets of these fields are put behind the others
pub record AreNumbered (es : List EntryOf) (fs : List FieldAt) (sets new : List SetOf) (members : List MemberOf) : Type 0 where
  pub added : List SetOf
  pub grown : new ≡ sets ++ added
  pub fields : map (λ m. m.field_at) members ≡ fs
  pub numbers : All (HasNumber es new) members
  pub each : All (IsOfOne es fs) added
  pub few : weights added ≤ field_weights fs

-- all fields that stand in the set with that number stand in the other one too
pub record IsWithin (x : ExecutableOf) (sets : List SetOf) (number : ℕ) (s : SetOf) : Type 0 where
  pub set : SetOf
  pub is_set : slice_get sets number ≡ Some set
  pub within : (f : FieldAt) → InSet x set f → InSet x s f

-- all fields that stand in the set stand in one that stands
pub record StandsWithin (x : ExecutableOf) (s : SetOf) : Type 0 where
  pub set : SetOf
  pub stands : Stands x set
  pub within : (f : FieldAt) → InSet x s f → InSet x set f

pub record IsRow (x : ExecutableOf) (sets : List SetOf) (r : RowOf) : Type 0 where
  pub fields : map (λ m. m.field_at) r.members ≡ own_fields r.set.file r.set.parent r.set.selections
  pub numbers : All (HasNumber x.entries sets) r.members
  pub inside : (k : ℕ) → Contains r.spreads k → IsWithin x sets k r.set

-- the names of the fragments
abbrev pub names_of : ExecutableOf → List Text
names_of x = map (λ f. f.name.text) x.fragments

-- the members and the spreads of the row with that number, none past the end
abbrev pub members_at : List RowOf → ℕ → List MemberOf
members_at rows n = option_map_or (λ r. r.members) (slice_get rows n) []

abbrev pub spreads_at : List RowOf → ℕ → List ℕ
spreads_at rows n = option_map_or (λ r. r.spreads) (slice_get rows n) []

-- a row leads to a number through another row
pub record IsThroughHub (rows : List RowOf) (from number : ℕ) : Type 0 where
  pub hub : ℕ
  pub there : Contains (spreads_at rows from) hub
  pub leads : Contains (spreads_at rows hub) number

-- a row leads to a number at once, or through another row
abbrev pub IsLedTo : List RowOf → ℕ → ℕ → Type 0
IsLedTo rows from number = Contains (spreads_at rows from) number ⊎ IsThroughHub rows from number

-- A row for each selection set that stands, those of fragments and of operations first, and for some sets whose fields stand together in
-- such a one. A row leads to each fragment that is spread in its set, and to nothing else that stands in it.
pub record AreRows (x : ExecutableOf) (rows : List RowOf) : Type 0 where
  pub others : List SetOf
  pub begin : map (λ r. r.set) rows ≡ first_sets x ++ others
  pub stand : All (StandsWithin x) (map (λ r. r.set) rows)
  pub each : All (IsRow x (map (λ r. r.set) rows)) rows
  pub leads : (n k : ℕ) (s : SetOf) → slice_get (map (λ r. r.set) rows) n ≡ Some s → Contains (own_spreads (names_of x) s.selections) k → IsLedTo rows n k

-- a field of the set of that number, or of a fragment that it reaches by spreads
pub record IsMember (rows : List RowOf) (number : ℕ) (m : MemberOf) : Type 0 where
  pub reached : ℕ
  pub reach : Reach (number ∷ []) (spreads_at rows) reached
  pub stands : Contains (members_at rows reached) m
