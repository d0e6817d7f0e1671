-- The rows of what input fields lead to by default values say what the relation says.
use Rattle.std.proofs.Common.{◌≡◌, ℕ, ◌+◌, ◌<◌, Bool, true, false, ◌||◌, if◌then◌else◌, List, [], ◌∷◌, ◌++◌, length, refl, ap, sym, ◌∙◌, subst, arith, Contains, Option, Some, None, ◌⊎◌, inl, inr, append-nil, nat_lt}
use Rattle.std.specs.Prelude.{slice_get, slice_index_or, nat_eq}
use Rattle.std.proofs.lemmas.Bool.{ltb-true, lt-ltb, eqb-true}
use Rattle.std.specs.List.{list_any}
use Rattle.std.specs.Option.{option_map_or}
use Rattle.std.specs.Str.{bytes_eq}
use Rattle.std.proofs.lemmas.List.Elements.{Contains-append_left}
use Rattle.gq_text.specs.declared.place.Span.{Span}
use Rattle.gq_tree.specs.Forest.{none, more}
use Rattle.gq_tree.specs.Plain.{NameOf, Says, Val, Vals, TypeOf, InputOf, variable, int, float, string, boolean, null, enum, list, object}
use Rattle.gq_types.specs.Entries.{Text, EntryOf}
use Rattle.gq_types.specs.Joined.{type_number}
use Rattle.gq_types.specs.Names.{input_named}
use Rattle.gq_values.specs.Literals.{at_type, is_object_literal, Holds, input_object_at}
use Rattle.gq_type_system.specs.EndlessInputs.{InputField, has_key}
use Rattle.gq_type_system.specs.Helping.DefaultValuesPlaces.{keys_in, has_default, absent_field, absent_number, numbers_of, absent_numbers, all_with_defaults, number_behind, type_node, led_to, led_at, gathered_of, default_leads, field_leads}
use Rattle.gq_type_system.proofs.Gathered.{in_only}
use Rattle.gq_type_system.proofs.ReadingLemmas.{from_gathered, to_gathered}
use Rattle.gq_types.proofs.Gathered.{nothing_in as in_none, first as in_first, from_flat, to_flat}

-- a name is a key where it is among the keys
key_first : (text : Text) (o : Option (NameOf Span)) (rest : Vals Span) (keys : List Text) → has_key text rest ≡ list_any (bytes_eq text) keys
    → (if option_map_or (λ key. bytes_eq text key.text) o false then true else has_key text rest) ≡ list_any (bytes_eq text) (option_map_or (λ key. key.text ∷ []) o [] ++ keys)
key_first text None rest keys is = is
key_first text (Some key) rest keys is = by (bytes_eq text key.text)
  where
    by : (b : Bool) → (if b then true else has_key text rest) ≡ (b || list_any (bytes_eq text) keys)
    by true = refl
    by false = is

has_key_is : (text : Text) (vs : Vals Span) → has_key text vs ≡ list_any (bytes_eq text) (keys_in vs)
has_key_is text none = refl
has_key_is text (more part below rest) = key_first text part.key rest (keys_in rest) (has_key_is text rest)

-- the number of a field that is absent, and has a default value
from_absent_field : (es : List EntryOf) (keys : List Text) (number : ℕ) (field : InputField) (i : ℕ) → Contains (absent_field es keys number field) i
    → (list_any (bytes_eq field.name) keys ≡ false) × (has_default es field ≡ true) × (number ≡ i)
from_absent_field es keys number field i found = by (list_any (bytes_eq field.name) keys) (has_default es field) refl refl found
  where
    by : (b d : Bool) → list_any (bytes_eq field.name) keys ≡ b → has_default es field ≡ d → Contains (if b then [] else if d then number ∷ [] else []) i
        → (list_any (bytes_eq field.name) keys ≡ false) × (has_default es field ≡ true) × (number ≡ i)
    by true d is has found = absurd (in_none i found)
    by false true is has found = (is, has, in_only number i found)
    by false false is has found = absurd (in_none i found)

to_absent_field : (es : List EntryOf) (keys : List Text) (number : ℕ) (field : InputField) → list_any (bytes_eq field.name) keys ≡ false → has_default es field ≡ true → Contains (absent_field es keys number field) number
to_absent_field es keys number field is has =
    let put : Contains (if false then [] else if true then number ∷ [] else []) number = in_first number number [] refl in
    subst (λ b. Contains (if b then [] else if has_default es field then number ∷ [] else []) number) (sym is)
    (subst (λ d. Contains (if false then [] else if d then number ∷ [] else []) number) (sym has) put)

-- what is absent in a literal
pub record Absent (es : List EntryOf) (fields : List InputField) (rows : List (List ℕ)) (t : TypeOf Span) (says : Says Span) (below : Vals Span) (i : ℕ) : Type 0 where
  pub is_object : is_object_literal says ≡ true
  pub type_name : Text
  pub is_at : input_object_at es t ≡ Some type_name
  pub field : InputField
  pub in_row : Contains (numbers_of es rows type_name) i
  pub is_field : slice_get fields i ≡ Some field
  pub is_absent : has_key field.name below ≡ false
  pub has_default_value : has_default es field ≡ true

module _ (es : List EntryOf) (fields : List InputField) (rows : List (List ℕ)) where
  pub from_number : (keys : List Text) (number i : ℕ) → Contains (absent_number es fields keys number) i
      → (number ≡ i) × (field : InputField) × (slice_get fields i ≡ Some field) × (list_any (bytes_eq field.name) keys ≡ false) × (has_default es field ≡ true)
  from_number keys number i found = by (slice_get fields number) refl found
    where
      by : (o : Option InputField) → slice_get fields number ≡ o → Contains (option_map_or (absent_field es keys number) o []) i
          → (number ≡ i) × (field : InputField) × (slice_get fields i ≡ Some field) × (list_any (bytes_eq field.name) keys ≡ false) × (has_default es field ≡ true)
      by None is found = absurd (in_none i found)
      by (Some field) is found =
          let at = from_absent_field es keys number field i found in
          (at.2, field, ap (slice_get fields) (sym at.2) ∙ is, at.0, at.1)

  to_number : (keys : List Text) (i : ℕ) (field : InputField) → slice_get fields i ≡ Some field → list_any (bytes_eq field.name) keys ≡ false → has_default es field ≡ true → Contains (absent_number es fields keys i) i
  to_number keys i field is absent has = subst (λ o. Contains (option_map_or (absent_field es keys i) o []) i) (sym is) (to_absent_field es keys i field absent has)

  from_absent : (t : TypeOf Span) (place : Span) (below : Vals Span) (i : ℕ) (type_name : Text) → input_object_at es t ≡ Some type_name
      → Contains (absent_numbers es fields rows type_name (keys_in below)) i → Absent es fields rows t (object place) below i
  from_absent t place below i type_name is found =
      let number = from_flat (absent_number es fields (keys_in below)) (numbers_of es rows type_name) i found in
      let at = from_number (keys_in below) number.0 i number.2 in
      record {
        is_object = refl;
        type_name = type_name;
        is_at = is;
        field = at.1;
        in_row = subst (λ n. Contains (numbers_of es rows type_name) n) at.0 number.1;
        is_field = at.2;
        is_absent = has_key_is at.1.name below ∙ at.3;
        has_default_value = at.4;
      }

  -- a literal without keys, and the number of all fields of its type
  pub record AllAbsent (t : TypeOf Span) (says : Says Span) (below : Vals Span) (x : ℕ) : Type 0 where
    pub is_object : is_object_literal says ≡ true
    pub type_name : Text
    pub is_at : input_object_at es t ≡ Some type_name
    pub no_keys : keys_in below ≡ []
    pub number : ℕ
    pub meant : type_number es type_name ≡ Some number
    pub inside : number < length rows
    pub is : x ≡ length fields + number

  -- all fields of its type that have default values are absent in it
  pub each_absent : (t : TypeOf Span) (says : Says Span) (below : Vals Span) (x i : ℕ) (a : AllAbsent t says below x)
      → Contains (all_with_defaults es fields (slice_index_or rows a.number [])) i → Absent es fields rows t says below i
  each_absent t says below x i a found =
      let number = from_flat (absent_number es fields []) (slice_index_or rows a.number []) i found in
      let at = from_number [] number.0 i number.2 in
      let row : Contains (slice_index_or rows a.number []) i = subst (λ n. Contains (slice_index_or rows a.number []) n) at.0 number.1 in
      record {
        is_object = a.is_object;
        type_name = a.type_name;
        is_at = a.is_at;
        field = at.1;
        in_row = subst (λ o. Contains (option_map_or (λ number. slice_index_or rows number []) o []) i) (sym a.meant) row;
        is_field = at.2;
        is_absent = has_key_is at.1.name below ∙ ap (list_any (bytes_eq at.1.name)) a.no_keys;
        has_default_value = at.4;
      }

  from_node : (t : TypeOf Span) (place : Span) (below : Vals Span) (x : ℕ) (type_name : Text) → input_object_at es t ≡ Some type_name → keys_in below ≡ []
      → Contains (type_node es fields rows type_name) x → AllAbsent t (object place) below x
  from_node t place below x type_name is_at no_keys found = by (type_number es type_name) refl found
    where
      inside_table : (number : ℕ) → type_number es type_name ≡ Some number → (b : Bool) → nat_lt number (length rows) ≡ b
          → Contains (if b then (length fields + number) ∷ [] else []) x → AllAbsent t (object place) below x
      inside_table number meant false less found = absurd (in_none x found)
      inside_table number meant true less found = record {
        is_object = refl;
        type_name = type_name;
        is_at = is_at;
        no_keys = no_keys;
        number = number;
        meant = meant;
        inside = ltb-true number (length rows) less;
        is = sym (in_only (length fields + number) x found);
      }

      by : (o : Option ℕ) → type_number es type_name ≡ o → Contains (option_map_or (number_behind fields rows) o []) x → AllAbsent t (object place) below x
      by None is found = absurd (in_none x found)
      by (Some number) is found = inside_table number is (nat_lt number (length rows)) refl found

  no_items : (keys : List Text) → length keys ≡ 0 → keys ≡ []
  no_items [] is = refl
  no_items (k ∷ ks) is = absurd (omega (arith, is))

  from_object : (t : TypeOf Span) (place : Span) (below : Vals Span) (x : ℕ) (o : Option Text) → input_object_at es t ≡ o
      → Contains (option_map_or (λ type_name. led_to es fields rows type_name (keys_in below)) o []) x → Absent es fields rows t (object place) below x ⊎ AllAbsent t (object place) below x
  from_object t place below x None is found = absurd (in_none x found)
  from_object t place below x (Some type_name) is found = by (nat_eq (length (keys_in below)) 0) refl found
    where
      by : (b : Bool) → nat_eq (length (keys_in below)) 0 ≡ b → Contains (if b then type_node es fields rows type_name else absent_numbers es fields rows type_name (keys_in below)) x
          → Absent es fields rows t (object place) below x ⊎ AllAbsent t (object place) below x
      by true no_keys found = inr (from_node t place below x type_name is (no_items (keys_in below) (eqb-true (length (keys_in below)) 0 no_keys)) found)
      by false has_keys found = inl (from_absent t place below x type_name is found)

  pub from_led : (t : TypeOf Span) (says : Says Span) (below : Vals Span) (x : ℕ) → Contains (led_at es fields rows t says below) x → Absent es fields rows t says below x ⊎ AllAbsent t says below x
  from_led t (object place) below x found = from_object t place below x (input_object_at es t) refl found
  from_led t (list place) below x found = absurd (in_none x found)
  from_led t (variable name place) below x found = absurd (in_none x found)
  from_led t (int text place) below x found = absurd (in_none x found)
  from_led t (float text place) below x found = absurd (in_none x found)
  from_led t (string text place) below x found = absurd (in_none x found)
  from_led t (boolean value place) below x found = absurd (in_none x found)
  from_led t (null place) below x found = absurd (in_none x found)
  from_led t (enum name) below x found = absurd (in_none x found)

  -- a literal leads to what is absent in it, or to the number of all fields of its type, among which that is
  abbrev pub LeadsTo : (t : TypeOf Span) (says : Says Span) (below : Vals Span) (number i : ℕ) → Type 0
  LeadsTo t says below number i = Contains (led_at es fields rows t says below) i
      ⊎ (Contains (led_at es fields rows t says below) (length fields + number) × Contains (all_with_defaults es fields (slice_index_or rows number [])) i)

  to_object : (t : TypeOf Span) (place : Span) (below : Vals Span) (number i : ℕ) → (a : Absent es fields rows t (object place) below i) → type_number es a.type_name ≡ Some number → number < length rows
      → LeadsTo t (object place) below number i
  to_object t place below number i a meant inside = by (nat_eq (length (keys_in below)) 0) refl
    where
      keyed : Bool → List ℕ
      keyed b = if b then type_node es fields rows a.type_name else absent_numbers es fields rows a.type_name (keys_in below)

      put : (x : ℕ) (b : Bool) → nat_eq (length (keys_in below)) 0 ≡ b → Contains (keyed b) x → Contains (led_at es fields rows t (object place) below) x
      put x b is found = subst (λ o. Contains (option_map_or (λ type_name. led_to es fields rows type_name (keys_in below)) o []) x) (sym a.is_at)
          (subst (λ c. Contains (keyed c) x) (sym is) found)

      behind : Contains (if nat_lt number (length rows) then (length fields + number) ∷ [] else []) (length fields + number)
      behind = subst (λ b. Contains (if b then (length fields + number) ∷ [] else []) (length fields + number)) (sym (lt-ltb number (length rows) inside))
          (in_first (length fields + number) (length fields + number) [] refl)

      node : Contains (type_node es fields rows a.type_name) (length fields + number)
      node = subst (λ o. Contains (option_map_or (number_behind fields rows) o []) (length fields + number)) (sym meant) behind

      in_row : Contains (slice_index_or rows number []) i
      in_row = subst (λ o. Contains (option_map_or (λ number. slice_index_or rows number []) o []) i) meant a.in_row

      by : (b : Bool) → nat_eq (length (keys_in below)) 0 ≡ b → LeadsTo t (object place) below number i
      by true is = inr (put (length fields + number) true is node, to_flat (absent_number es fields []) (slice_index_or rows number []) i i in_row (to_number [] i a.field a.is_field refl a.has_default_value))
      by false is = inl (put i false is (to_flat (absent_number es fields (keys_in below)) (numbers_of es rows a.type_name) i i a.in_row
          (to_number (keys_in below) i a.field a.is_field (sym (has_key_is a.field.name below) ∙ a.is_absent) a.has_default_value)))

  pub to_led : (t : TypeOf Span) (says : Says Span) (below : Vals Span) (number i : ℕ) → (a : Absent es fields rows t says below i) → type_number es a.type_name ≡ Some number → number < length rows
      → LeadsTo t says below number i
  to_led t (object place) below number i a meant inside = to_object t place below number i a meant inside
  to_led t (list place) below number i a meant inside = absurd (let is = a.is_object in cc)
  to_led t (variable name place) below number i a meant inside = absurd (let is = a.is_object in cc)
  to_led t (int text place) below number i a meant inside = absurd (let is = a.is_object in cc)
  to_led t (float text place) below number i a meant inside = absurd (let is = a.is_object in cc)
  to_led t (string text place) below number i a meant inside = absurd (let is = a.is_object in cc)
  to_led t (boolean value place) below number i a meant inside = absurd (let is = a.is_object in cc)
  to_led t (null place) below number i a meant inside = absurd (let is = a.is_object in cc)
  to_led t (enum name) below number i a meant inside = absurd (let is = a.is_object in cc)

  -- a literal in the default value of a field
  pub record Read (from : InputField) : Type 0 where
    pub field : InputOf Span
    pub default : Val Span
    pub is_field : input_named es from.type_name from.name ≡ Some field
    pub has_default_value : field.default ≡ Some default
    pub literal : Val Span
    pub literal_type : TypeOf Span
    pub holds : Holds es (at_type field.type_ref) default (at_type literal_type) literal

  -- what a field leads to, by the numbers
  pub record Graph (from : InputField) (i : ℕ) : Type 0 where
    pub read : Read from
    pub absent : Absent es fields rows read.literal_type read.literal.label.says read.literal.below i

  abbrev pub LedBy : (from : InputField) → Read from → ℕ → Type 0
  LedBy from r x = Contains (led_at es fields rows r.literal_type r.literal.label.says r.literal.below) x

  from_default : (from : InputField) (x : ℕ) (field : InputOf Span) → input_named es from.type_name from.name ≡ Some field
      → (d : Option (Val Span)) → field.default ≡ d → Contains (option_map_or (gathered_of es (led_at es fields rows) (Some field.type_ref)) d []) x → (r : Read from) × LedBy from r x
  from_default from x field is_field None is found = absurd (in_none x found)
  from_default from x field is_field (Some default) is found =
      let inside = from_gathered es (led_at es fields rows) (more default.label default.below none) (λ key. at_type field.type_ref) x
      (Contains-append_left (gathered_of es (led_at es fields rows) (Some field.type_ref) default) [] x found) in (
        record {
          field = field;
          default = default;
          is_field = is_field;
          has_default_value = is;
          literal = inside.value;
          literal_type = inside.type_ref;
          holds = inside.stands;
        },
        inside.found,
      )

  pub from_leads : (from : InputField) (x : ℕ) → Contains (field_leads es fields rows from) x → (r : Read from) × LedBy from r x
  from_leads from x found = by (input_named es from.type_name from.name) refl found
    where
      by : (o : Option (InputOf Span)) → input_named es from.type_name from.name ≡ o → Contains (option_map_or (default_leads es fields rows) o []) x → (r : Read from) × LedBy from r x
      by None is found = absurd (in_none x found)
      by (Some field) is found = from_default from x field is field.default refl found

  pub to_leads : (from : InputField) (x : ℕ) (r : Read from) → LedBy from r x → Contains (field_leads es fields rows from) x
  to_leads from x r led =
      let inside = to_gathered es (led_at es fields rows) r.literal_type x r.holds refl led in
      let whole : Contains (gathered_of es (led_at es fields rows) (Some r.field.type_ref) r.default) x =
      subst (λ ns. Contains ns x) (append-nil (gathered_of es (led_at es fields rows) (Some r.field.type_ref) r.default)) inside in
      let by_default : Contains (default_leads es fields rows r.field) x =
      subst (λ d. Contains (option_map_or (gathered_of es (led_at es fields rows) (Some r.field.type_ref)) d []) x) (sym r.has_default_value) whole in
      subst (λ o. Contains (option_map_or (default_leads es fields rows) o []) x) (sym r.is_field) by_default
