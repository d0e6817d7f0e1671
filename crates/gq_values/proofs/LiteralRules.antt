-- What is computed of a literal is the faults of section 5.6 in it.
use Rattle.std.proofs.Common.{◌≡◌, ℕ, Bool, true, false, if◌then◌else◌, List, [], ◌∷◌, ◌++◌, inl, inr, ◌↔◌, Contains, refl, sym, ap, subst, ◌∙◌, Option, Some, None, map}
use Rattle.std.specs.Prelude.{not, ◌&&◌, option_and_then}
use Rattle.std.specs.Option.{option_map, option_map_or}
use Rattle.std.specs.List.{find, list_any}
use Rattle.std.specs.Str.{bytes_eq}
use Rattle.std.specs.Cmp.Lexicographic.{bytes_decides, nat_list_eq_equiv}
use Rattle.std.proofs.lemmas.List.Elements.{Contains-append_left, Contains-append_right, Contains-append_cases}
use Rattle.std.proofs.lemmas.Map.Views.{Contains-from_any, list_any-from_Contains}
use Rattle.std.proofs.lemmas.Bool.{false≢true}
use Rattle.std.proofs.lemmas.Option.{none-some}
use Rattle.gq_text.specs.declared.place.Span.{Span}
use Rattle.gq_tree.specs.Forest.{none, more}
use Rattle.gq_tree.specs.Plain.{NameOf, Says, Val, Vals, TypeOf, named, list_of, non_null, InputOf, variable, int, float, string, boolean, null, enum, list, object}
use Rattle.gq_names.specs.Repeats.{repeated}
use Rattle.gq_names.proofs.RepeatLemmas.{contains_none, contains_first, repeated_is}
use Rattle.gq_fault.specs.declared.code.Code.TheVariants.{WrongValue, UnknownInputField, InputFieldNotUnique, InputFieldMissing}
use Rattle.gq_fault.specs.declared.fault.Fault.{Fault}
use Rattle.gq_types.specs.declared.entry.TypeKind.{TypeKind}
use Rattle.gq_types.specs.declared.entry.TypeKind.TheVariants as kind
use Rattle.gq_types.specs.Entries.{Text, EntryOf}
use Rattle.gq_types.specs.Joined.{In, type_number, kind_named, inputs_of}
use Rattle.gq_types.specs.Names.{input_named, argument_named}
use Rattle.gq_types.specs.Required.{is_required, is_missing, is_missing_by, is_any_missing, is_field_missing}
use Rattle.gq_values.specs.Literals.{fits, fits_kind, Expected, at_type, at_any, part_at, StandsIn, here, within, after, is_input_object, input_object_at}
use Rattle.gq_fault.specs.FaultPlaces.{fault_at, fault_over}
use Rattle.gq_values.specs.LiteralFaults.{entry_names, HasNone, literal_place, first_byte, IsFaultOf, wrong_value, unknown_field, field_not_unique, field_missing, IsLiteralFault}
use Rattle.gq_values.specs.LiteralPlaces.{texts, repeated_fields, unknown_field_at, unknown_fields, missing_fields, field_faults, names_in, entry_faults, type_faults, own_faults, faults_in, literal_faults}
use Rattle.gq_types.proofs.Gathered.{only, from_if, to_if, found as from_find, from_any, to_any, from_flat, to_flat, from_map_as as from_map, to_map_as as to_map}

-- a name that is not among the texts of names
pub none_given : (names : List (NameOf Span)) (text : Text) → list_any (bytes_eq text) (texts names) ≡ false → HasNone names text
none_given names text absent name stands same =
    let given = list_any-from_Contains nat_list_eq_equiv text (texts names) (to_map (λ (n : NameOf Span). n.text) names name text stands (sym same)) in
    cc

pub not_given : (names : List (NameOf Span)) (text : Text) → HasNone names text → list_any (bytes_eq text) (texts names) ≡ false
not_given names text absent = by_test (list_any (bytes_eq text) (texts names)) refl
  where
    by_test : (b : Bool) → list_any (bytes_eq text) (texts names) ≡ b → list_any (bytes_eq text) (texts names) ≡ false
    by_test false is = is
    by_test true is =
        let given = from_map (λ (n : NameOf Span). n.text) names text (Contains-from_any (λ s t same. (bytes_decides s t).0 same) text (texts names) is) in
        absurd (absent given.0 given.1 (sym given.2))

-- an object literal fits where its fields are those of an input object
object_fits_kind : (es : List EntryOf) (text type_name : Text) (place : Span) (k : Option TypeKind) → (if is_input_object k then Some text else None) ≡ Some type_name → fits_kind es text k (object place) ≡ true
object_fits_kind es text type_name place (Some kind.InputObject) e = refl
object_fits_kind es text type_name place (Some kind.Scalar) e = absurd (none-some type_name e)
object_fits_kind es text type_name place (Some kind.Object) e = absurd (none-some type_name e)
object_fits_kind es text type_name place (Some kind.Interface) e = absurd (none-some type_name e)
object_fits_kind es text type_name place (Some kind.Union) e = absurd (none-some type_name e)
object_fits_kind es text type_name place (Some kind.Enum) e = absurd (none-some type_name e)
object_fits_kind es text type_name place None e = absurd (none-some type_name e)

object_fits : (es : List EntryOf) (type_name : Text) (place : Span) (t : TypeOf Span) → input_object_at es t ≡ Some type_name → fits es t (object place) ≡ true
object_fits es type_name place (named name) e = object_fits_kind es name.text type_name place (kind_named es name.text) e
object_fits es type_name place (list_of item) e = object_fits es type_name place item e
object_fits es type_name place (non_null inner) e = object_fits es type_name place inner e

-- one that is required and not given
from_missing : (known : List (InputOf Span)) (text : Text) (names : List (NameOf Span)) → is_missing known (texts names) text ≡ true →
    (i : InputOf Span) × (argument_named known text ≡ Some i) × (is_required i ≡ true) × HasNone names text
from_missing known text names = by_input (argument_named known text) refl
  where
    by_given : (i : InputOf Span) → argument_named known text ≡ Some i → (r b : Bool) → is_required i ≡ r → list_any (bytes_eq text) (texts names) ≡ b → (r && not b) ≡ true →
        (i : InputOf Span) × (argument_named known text ≡ Some i) × (is_required i ≡ true) × HasNone names text
    by_given i is true false required absent holds = (i, is, required, none_given names text absent)
    by_given i is true true required absent holds = absurd (cc)
    by_given i is false b required absent holds = absurd (cc)

    by_input : (o : Option (InputOf Span)) → argument_named known text ≡ o → (option_map_or is_required o false && not (list_any (bytes_eq text) (texts names))) ≡ true →
        (i : InputOf Span) × (argument_named known text ≡ Some i) × (is_required i ≡ true) × HasNone names text
    by_input None is holds = absurd (cc)
    by_input (Some i) is holds = by_given i is (is_required i) (list_any (bytes_eq text) (texts names)) refl refl holds

to_missing : (known : List (InputOf Span)) (text : Text) (names : List (NameOf Span)) (i : InputOf Span) → argument_named known text ≡ Some i → is_required i ≡ true → HasNone names text →
    is_missing known (texts names) text ≡ true
to_missing known text names i is required absent =
    ap (λ (o : Option (InputOf Span)). option_map_or is_required o false && not (list_any (bytes_eq text) (texts names))) is
    ∙ ap (λ (b : Bool). b && not (list_any (bytes_eq text) (texts names))) required
    ∙ ap (λ (b : Bool). not b) (not_given names text absent)

second_holds : (a b : Bool) → (a && b) ≡ true → b ≡ true
second_holds true b holds = holds
second_holds false b holds = absurd (false≢true holds)

-- any of them that is required and not given
pub from_any_missing : (known : List (InputOf Span)) (names : List (NameOf Span)) → is_any_missing known (texts names) ≡ true →
    (text : Text) × (i : InputOf Span) × (argument_named known text ≡ Some i) × (is_required i ≡ true) × HasNone names text
from_any_missing known names holds =
    let one = from_any (is_missing_by known (texts names)) known holds in
    let input = from_missing known one.0.name.text names (second_holds (is_required one.0) (is_missing known (texts names) one.0.name.text) one.2) in
    (one.0.name.text, input.0, input.1, input.2, input.3)

pub to_any_missing : (known : List (InputOf Span)) (text : Text) (names : List (NameOf Span)) (i : InputOf Span) → argument_named known text ≡ Some i → is_required i ≡ true → HasNone names text →
    is_any_missing known (texts names) ≡ true
to_any_missing known text names i is required absent =
    let at = from_find (λ (a : InputOf Span). bytes_eq text a.name.text) known i is in
    let same = (bytes_decides text i.name.text).0 at.1 in
    let missing = ap (is_missing known (texts names)) (sym same) ∙ to_missing known text names i is required absent in
    let by : is_missing_by known (texts names) i ≡ true = ap (λ b. b && is_missing known (texts names) i.name.text) required ∙ missing in
    to_any (is_missing_by known (texts names)) known i at.0 by

-- what a name means among what stands in documents
find_it : {A : Type 0} (p : A → Bool) (xs : List (In A)) → find p (map (λ x. x.it) xs) ≡ option_map (λ x. x.it) (find (λ x. p x.it) xs)
find_it p [] = refl
find_it p (x ∷ xs) = by_test (p x.it) (find_it p xs)
  where
    by_test : (b : Bool) → find p (map (λ x. x.it) xs) ≡ option_map (λ x. x.it) (find (λ x. p x.it) xs)
        → (if b then Some x.it else find p (map (λ x. x.it) xs)) ≡ option_map (λ x. x.it) (if b then Some x else find (λ x. p x.it) xs)
    by_test true rest = refl
    by_test false rest = rest

-- the same of the input fields of an input object
module _ (es : List EntryOf) (names : List (NameOf Span)) where
  abbrev inputs_at : ℕ → List (InputOf Span)
  inputs_at number = map (λ i. i.it) (inputs_of es number)

  abbrev input_in : Option ℕ → Text → Option (InputOf Span)
  input_in o text = option_and_then (λ number. option_map (λ i. i.it) (find (λ i. bytes_eq text i.it.name.text) (inputs_of es number))) o

  input_is : (number : ℕ) (text : Text) → argument_named (inputs_at number) text ≡ input_in (Some number) text
  input_is number text = find_it (λ (i : InputOf Span). bytes_eq text i.name.text) (inputs_of es number)

  from_number : (o : Option ℕ) → option_map_or (λ number. is_any_missing (inputs_at number) (texts names)) o false ≡ true →
      (text : Text) × (i : InputOf Span) × (input_in o text ≡ Some i) × (is_required i ≡ true) × HasNone names text
  from_number None holds = absurd (false≢true holds)
  from_number (Some number) holds =
      let one = from_any_missing (inputs_at number) names holds in
      (one.0, one.1, sym (input_is number one.0) ∙ one.2, one.3, one.4)

  to_number : (o : Option ℕ) (text : Text) (i : InputOf Span) → input_in o text ≡ Some i → is_required i ≡ true → HasNone names text →
      option_map_or (λ number. is_any_missing (inputs_at number) (texts names)) o false ≡ true
  to_number None text i is required absent = absurd (none-some i is)
  to_number (Some number) text i is required absent = to_any_missing (inputs_at number) text names i (input_is number text ∙ is) required absent

module _ (es : List EntryOf) (file : ℕ) (item : Fault) where
  -- the input object at which the entries of a literal are read, where there is one
  abbrev AreFieldsOf : Expected → Option Text → Type 0
  AreFieldsOf reading on = (type_name : Text) → on ≡ Some type_name → (t : TypeOf Span) × (reading ≡ at_type t) × (input_object_at es t ≡ Some type_name)

  unknown_is : (reading : Expected) (w : Val Span) (type_name : Text) (place : Span) (t : TypeOf Span) → reading ≡ at_type t → input_object_at es t ≡ Some type_name → w.label.says ≡ object place →
      Contains (unknown_fields es file type_name (entry_names w.below)) item → IsFaultOf es file reading w item
  unknown_is reading w type_name place t read on says found =
      let one = from_flat (unknown_field_at es file type_name) (entry_names w.below) item found in
      by_input one.0 one.1 (input_named es type_name one.0.text) refl one.2
    where
      by_input : (name : NameOf Span) → Contains (entry_names w.below) name → (o : Option (InputOf Span)) → input_named es type_name name.text ≡ o →
          Contains (option_map_or (λ i. []) o (fault_at file UnknownInputField name ∷ [])) item → IsFaultOf es file reading w item
      by_input name stands None is told = unknown_field read on says stands is (only (fault_at file UnknownInputField name) item told)
      by_input name stands (Some i) is told = absurd (contains_none item told)

  field_is : (reading : Expected) (w : Val Span) (type_name : Text) (place : Span) (t : TypeOf Span) → reading ≡ at_type t → input_object_at es t ≡ Some type_name → w.label.says ≡ object place →
      Contains (field_faults es file (Some type_name) place (entry_names w.below)) item → IsFaultOf es file reading w item
  field_is reading w type_name place t read on says found =
      elim (Contains-append_cases (unknown_fields es file type_name (entry_names w.below)) (missing_fields es file type_name (texts (entry_names w.below)) place) item found) [
        | inl unknown ↦ unknown_is reading w type_name place t read on says unknown
        | inr missing ↦ (let told = from_if (is_field_missing es type_name (texts (entry_names w.below))) (fault_over file InputFieldMissing (first_byte place)) item missing in
            let one = from_number es (entry_names w.below) (type_number es type_name) told.0 in
            field_missing read on says one.2 one.3 one.4 told.1)
      ]

  object_is : (reading : Expected) (w : Val Span) (place : Span) → w.label.says ≡ object place → (on : Option Text) → AreFieldsOf reading on →
      Contains (field_faults es file on place (entry_names w.below)) item → IsFaultOf es file reading w item
  object_is reading w place says None fields found = absurd (contains_none item found)
  object_is reading w place says (Some type_name) fields found = let at = fields type_name refl in field_is reading w type_name place at.0 at.1 at.2 says found

  entry_is : (reading : Expected) (w : Val Span) → (on : Option Text) → AreFieldsOf reading on → (says : Says Span) → w.label.says ≡ says →
      Contains (entry_faults es file on says w.below) item → IsFaultOf es file reading w item
  entry_is reading w on fields (object place) is found = object_is reading w place is on fields found
  entry_is reading w on fields (variable name place) is found = absurd (contains_none item found)
  entry_is reading w on fields (int text place) is found = absurd (contains_none item found)
  entry_is reading w on fields (float text place) is found = absurd (contains_none item found)
  entry_is reading w on fields (string text place) is found = absurd (contains_none item found)
  entry_is reading w on fields (boolean value place) is found = absurd (contains_none item found)
  entry_is reading w on fields (null place) is found = absurd (contains_none item found)
  entry_is reading w on fields (enum name) is found = absurd (contains_none item found)
  entry_is reading w on fields (list place) is found = absurd (contains_none item found)

  type_is : (reading : Expected) (w : Val Span) → Contains (type_faults es file reading w.label.says w.below) item → IsFaultOf es file reading w item
  type_is at_any w found = absurd (contains_none item found)
  type_is (at_type t) w found = by_fit (fits es t w.label.says) refl found
    where
      by_fit : (b : Bool) → fits es t w.label.says ≡ b →
          Contains (if b then entry_faults es file (input_object_at es t) w.label.says w.below else fault_over file WrongValue (literal_place w.label.says) ∷ []) item → IsFaultOf es file (at_type t) w item
      by_fit true fit told = entry_is (at_type t) w (input_object_at es t) (λ type_name on. (t, refl, on)) w.label.says refl told
      by_fit false fit told = wrong_value refl fit (only (fault_over file WrongValue (literal_place w.label.says)) item told)

  again_is : (reading : Expected) (w : Val Span) (says : Says Span) → w.label.says ≡ says → Contains (repeated_fields file [] (names_in says w.below)) item → IsFaultOf es file reading w item
  again_is reading w (object place) is found =
      let one = from_map (fault_at file InputFieldNotUnique) (repeated (λ n. n.text) (entry_names w.below)) item found in
      field_not_unique is ((repeated_is (λ n. n.text) (entry_names w.below) one.0).0 one.1) one.2
  again_is reading w (variable name place) is found = absurd (contains_none item found)
  again_is reading w (int text place) is found = absurd (contains_none item found)
  again_is reading w (float text place) is found = absurd (contains_none item found)
  again_is reading w (string text place) is found = absurd (contains_none item found)
  again_is reading w (boolean value place) is found = absurd (contains_none item found)
  again_is reading w (null place) is found = absurd (contains_none item found)
  again_is reading w (enum name) is found = absurd (contains_none item found)
  again_is reading w (list place) is found = absurd (contains_none item found)

  own_is : (reading : Expected) (w : Val Span) → Contains (own_faults es file reading w.label.says w.below) item → IsFaultOf es file reading w item
  own_is reading w found =
      elim (Contains-append_cases (repeated_fields file [] (names_in w.label.says w.below)) (type_faults es file reading w.label.says w.below) item found) [
        | inl again ↦ again_is reading w w.label.says refl again
        | inr typed ↦ type_is reading w typed
      ]

  -- the faults at a literal's type are among its own
  at_its_type : (reading : Expected) (w : Val Span) → Contains (type_faults es file reading w.label.says w.below) item → Contains (own_faults es file reading w.label.says w.below) item
  at_its_type reading w found = Contains-append_right (repeated_fields file [] (names_in w.label.says w.below)) (type_faults es file reading w.label.says w.below) item found

  -- the faults of the fields of an input object are among a literal's own
  of_fields : (reading : Expected) (w : Val Span) (place : Span) (t : TypeOf Span) (type_name : Text) → reading ≡ at_type t → input_object_at es t ≡ Some type_name → w.label.says ≡ object place →
      Contains (field_faults es file (Some type_name) place (entry_names w.below)) item → Contains (own_faults es file reading w.label.says w.below) item
  of_fields reading w place t type_name read on says found =
      let fit : fits es t w.label.says ≡ true = ap (fits es t) says ∙ object_fits es type_name place t on in
      let entry = subst (λ o. Contains (field_faults es file o place (entry_names w.below)) item) (sym on) found in
      at_its_type reading w (subst (λ r. Contains (type_faults es file r w.label.says w.below) item) (sym read)
      (subst (λ b. Contains (if b then entry_faults es file (input_object_at es t) w.label.says w.below else fault_over file WrongValue (literal_place w.label.says) ∷ []) item) (sym fit)
      (subst (λ s. Contains (entry_faults es file (input_object_at es t) s w.below) item) (sym says) entry)))

  is_own : {reading : Expected} {w : Val Span} → IsFaultOf es file reading w item → Contains (own_faults es file reading w.label.says w.below) item
  is_own {reading} {w} (wrong_value {t} read fit told) =
      at_its_type reading w (subst (λ r. Contains (type_faults es file r w.label.says w.below) item) (sym read)
      (subst (λ b. Contains (if b then entry_faults es file (input_object_at es t) w.label.says w.below else fault_over file WrongValue (literal_place w.label.says) ∷ []) item) (sym fit)
      (contains_first (fault_over file WrongValue (literal_place w.label.says)) [] item (sym told))))
  is_own {reading} {w} (unknown_field {t} {type_name} {place} {name} read on says stands unknown told) =
      let one = subst (λ o. Contains (option_map_or (λ (i : InputOf Span). []) o (fault_at file UnknownInputField name ∷ [])) item) (sym unknown) (contains_first (fault_at file UnknownInputField name) [] item (sym told)) in
      let all = to_flat (unknown_field_at es file type_name) (entry_names w.below) name item stands one in
      of_fields reading w place t type_name read on says
      (Contains-append_left (unknown_fields es file type_name (entry_names w.below)) (missing_fields es file type_name (texts (entry_names w.below)) place) item all)
  is_own {reading} {w} (field_not_unique {place} {name} says again told) =
      let found = to_map (fault_at file InputFieldNotUnique) (repeated (λ n. n.text) (entry_names w.below)) name item ((repeated_is (λ n. n.text) (entry_names w.below) name).1 again) told in
      Contains-append_left (repeated_fields file [] (names_in w.label.says w.below)) (type_faults es file reading w.label.says w.below) item
      (subst (λ s. Contains (repeated_fields file [] (names_in s w.below)) item) (sym says) found)
  is_own {reading} {w} (field_missing {t} {type_name} {text} {place} {i} read on says is required absent told) =
      of_fields reading w place t type_name read on says
      (Contains-append_right (unknown_fields es file type_name (entry_names w.below)) (missing_fields es file type_name (texts (entry_names w.below)) place) item
      (to_if (is_field_missing es type_name (texts (entry_names w.below))) (fault_over file InputFieldMissing (first_byte place)) item
      (to_number es (entry_names w.below) (type_number es type_name) text i is required absent) told))

  -- literals in a row
  abbrev Found : (Option (NameOf Span) → Expected) → Vals Span → Type 0
  Found read vals = (reading : Expected) × (w : Val Span) × StandsIn es read vals reading w × Contains (own_faults es file reading w.label.says w.below) item

  from_row : (read : Option (NameOf Span) → Expected) (vals : Vals Span) → Contains (faults_in es file read vals) item → Found read vals
  from_row read none found = absurd (contains_none item found)
  from_row read (more part below rest) found =
      elim (Contains-append_cases (own_faults es file (read part.key) part.says below ++ faults_in es file (part_at es (read part.key)) below) (faults_in es file read rest) item found) [
        | inl first ↦ elim (Contains-append_cases (own_faults es file (read part.key) part.says below) (faults_in es file (part_at es (read part.key)) below) item first) [
          | inl own ↦ (read part.key, record { label = part; below = below }, here, own)
          | inr inner ↦ (let one = from_row (part_at es (read part.key)) below inner in (one.0, one.1, within one.2, one.3))
        ]
        | inr later ↦ (let one = from_row read rest later in (one.0, one.1, after one.2, one.3))
      ]

  to_row : {read : Option (NameOf Span) → Expected} {vals : Vals Span} {reading : Expected} {w : Val Span} → StandsIn es read vals reading w → Contains (own_faults es file reading w.label.says w.below) item →
      Contains (faults_in es file read vals) item
  to_row (here {read} {part} {below} {rest}) own =
      Contains-append_left (own_faults es file (read part.key) part.says below ++ faults_in es file (part_at es (read part.key)) below) (faults_in es file read rest) item
      (Contains-append_left (own_faults es file (read part.key) part.says below) (faults_in es file (part_at es (read part.key)) below) item own)
  to_row (within {read} {part} {below} {rest} inner) own =
      Contains-append_left (own_faults es file (read part.key) part.says below ++ faults_in es file (part_at es (read part.key)) below) (faults_in es file read rest) item
      (Contains-append_right (own_faults es file (read part.key) part.says below) (faults_in es file (part_at es (read part.key)) below) item (to_row inner own))
  to_row (after {read} {part} {below} {rest} later) own =
      Contains-append_right (own_faults es file (read part.key) part.says below ++ faults_in es file (part_at es (read part.key)) below) (faults_in es file read rest) item (to_row later own)

  -- what is told of a literal is what is wrong with it or with one that stands in it
  pub literal_faults_are : (reading : Expected) (value : Val Span) → Contains (literal_faults es file reading value) item ↔ IsLiteralFault es file reading value item
  literal_faults_are reading value = (
    λ found. (let one = from_row (λ key. reading) (more value.label value.below none) (Contains-append_left (literal_faults es file reading value) [] item found) in
        record { inner = one.0; part = one.1; stands = one.2; fault = own_is one.0 one.1 one.3 }),
    λ fault. elim (Contains-append_cases (literal_faults es file reading value) [] item (to_row fault.stands (is_own fault.fault))) [
      | inl found ↦ found
      | inr nothing ↦ absurd (contains_none item nothing)
    ],
  )
