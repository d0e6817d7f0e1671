-- Fields by a name that is said of them, as their response keys, computed.
use Rattle.std.specs.Prelude.{◌≡◌, ◌↔◌, ℕ, ◌<◌, List, [], Some, Contains, length, map, position, slice_get, slice_index_or}
use Rattle.std.specs.Option.{option_map_or}
use Rattle.std.specs.Str.{bytes_eq}
use Rattle.gq_types.specs.Entries.{Text}
use Rattle.gq_document.specs.FieldSets.{key}
use Rattle.gq_merging.specs.Helping.PairTables.{MetOf}
use Rattle.gq_merging.specs.Helping.SetTables.{MemberOf}
use Rattle.gq_merging.specs.Helping.Views.{members_view}
use Rattle.gq_merging.specs.declared.by_name.FieldsByName.{FieldsByName}

-- names, and for each a list of fields
pub record ByNameOf : Type 0 where
  pub names : List Text
  pub lists : List (List MemberOf)

abbrev pub by_name_view : FieldsByName → ByNameOf
by_name_view t = record { names = t.names; lists = map (λ v. members_view v.items) t.lists.items }

-- the list at a place, none past the end
abbrev pub list_at : List (List MemberOf) → ℕ → List MemberOf
list_at lists place = option_map_or (λ ms. ms) (slice_get lists place) []

-- the fields in the list of a name, none where it has no list
abbrev pub fields_with : ByNameOf → Text → List MemberOf
fields_with t text = option_map_or (list_at t.lists) (position (bytes_eq text) t.names) []

-- There is a list for each name, each name is there once, and in the list of a name stand those of the fields of which it is
-- said.
pub record AreListed (said : MemberOf → Text) (t : ByNameOf) (ms : List MemberOf) : Type 0 where
  pub count : length t.lists ≡ length t.names
  pub apart : (i : ℕ) → i < length t.names → position (bytes_eq (slice_index_or t.names i [])) t.names ≡ Some i
  pub each : (text : Text) (m : MemberOf) → Contains (fields_with t text) m ↔ (Contains ms m × (said m ≡ text))

-- the names are the keys of the fields
abbrev pub AreByKey : ByNameOf → List MemberOf → Type 0
AreByKey t ms = AreListed (λ m. key m.field_at) t ms

-- the one is among these fields, the other stands in the list of its key, and both have one key
pub record AreMetByKey (left : List MemberOf) (t : ByNameOf) (p : MetOf) : Type 0 where
  pub stands_left : Contains left p.left
  pub stands_right : Contains (fields_with t (key p.left.field_at)) p.right
  pub one_key : key p.left.field_at ≡ key p.right.field_at
