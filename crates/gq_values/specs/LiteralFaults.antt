-- Faults of literals: their types, and the names, the uniqueness and the presence of input fields (section 5.6).
use Rattle.std.specs.Prelude.{◌≡◌, ◌≢◌, ℕ, ◌+◌, true, false, List, [], ◌∷◌, ◌++◌, Option, Some, None, Contains, nat_lt, if◌then◌else◌}
use Rattle.gq_text.specs.declared.place.Span.{Span}
use Rattle.gq_tree.specs.Forest.{none, more}
use Rattle.gq_tree.specs.Plain.{NameOf, Says, Val, Vals, TypeOf, InputOf, variable, int, float, string, boolean, null, enum, list, object}
use Rattle.gq_names.specs.Repeats.{IsRepeated}
use Rattle.gq_fault.specs.declared.code.Code.TheVariants.{WrongValue, UnknownInputField, InputFieldNotUnique, InputFieldMissing}
use Rattle.gq_fault.specs.declared.fault.Fault.{Fault}
use Rattle.gq_types.specs.Entries.{Text, EntryOf}
use Rattle.gq_types.specs.Names.{input_named}
use Rattle.gq_types.specs.Required.{is_required}
use Rattle.gq_values.specs.Literals.{fits, Expected, at_type, Holds, input_object_at}
use Rattle.gq_fault.specs.FaultPlaces.{fault_at, fault_over}

abbrev pub key_in : Option (NameOf Span) → List (NameOf Span)
key_in None = []
key_in (Some name) = name ∷ []

-- the names of the entries of an object literal, in order
abbrev pub entry_names : Vals Span → List (NameOf Span)
entry_names none = []
entry_names (more part below rest) = key_in part.key ++ entry_names rest

-- none of the names has that text
abbrev pub HasNone : List (NameOf Span) → Text → Type 0
HasNone names text = (name : NameOf Span) → Contains names name → name.text ≢ text

-- the place of a whole literal
abbrev pub literal_place : Says Span → Span
literal_place (variable name place) = place
literal_place (int text place) = place
literal_place (float text place) = place
literal_place (string text place) = place
literal_place (boolean value place) = place
literal_place (null place) = place
literal_place (enum name) = name.place
literal_place (list place) = place
literal_place (object place) = place

-- the place of its opening brace, which is the first byte of it
abbrev pub first_byte : Span → Span
first_byte place = record { start = place.start; end = if nat_lt place.start place.end then place.start + 1 else place.end }

-- what is wrong with a literal itself, whatever stands in it
pub data IsFaultOf (es : List EntryOf) (file : ℕ) (reading : Expected) (value : Val Span) (item : Fault) : Type 0 where
  -- section 5.6.1, over the whole literal
  wrong_value : {t : TypeOf Span} → reading ≡ at_type t → fits es t value.label.says ≡ false →
      item ≡ fault_over file WrongValue (literal_place value.label.says) → IsFaultOf es file reading value item
  -- section 5.6.2, at the name
  unknown_field : {t : TypeOf Span} {type_name : Text} {place : Span} {name : NameOf Span} →
      reading ≡ at_type t → input_object_at es t ≡ Some type_name → value.label.says ≡ object place →
      Contains (entry_names value.below) name → input_named es type_name name.text ≡ None →
      item ≡ fault_at file UnknownInputField name → IsFaultOf es file reading value item
  -- section 5.6.3, at the later name, whatever the literal is read at
  field_not_unique : {place : Span} {name : NameOf Span} →
      value.label.says ≡ object place →
      IsRepeated (λ n. n.text) (entry_names value.below) name →
      item ≡ fault_at file InputFieldNotUnique name → IsFaultOf es file reading value item
  -- section 5.6.4, at the opening brace
  field_missing : {t : TypeOf Span} {type_name text : Text} {place : Span} {i : InputOf Span} →
      reading ≡ at_type t → input_object_at es t ≡ Some type_name → value.label.says ≡ object place →
      input_named es type_name text ≡ Some i → is_required i ≡ true → HasNone (entry_names value.below) text →
      item ≡ fault_over file InputFieldMissing (first_byte place) → IsFaultOf es file reading value item

-- a fault of a literal, or of one that stands in it
pub record IsLiteralFault (es : List EntryOf) (file : ℕ) (reading : Expected) (value : Val Span) (item : Fault) : Type 0 where
  pub inner : Expected
  pub part : Val Span
  pub stands : Holds es reading value inner part
  pub fault : IsFaultOf es file inner part item
