-- The types that are marked are those one of whose input fields leads back to itself by default values.
use Rattle.std.proofs.Common.{◌≡◌, ℕ, zero, suc, ◌+◌, ◌<◌, Bool, true, false, ◌||◌, List, [], ◌∷◌, length, get_or, map, refl, ap, sym, ◌∙◌, subst, arith, Contains, ◌↔◌, ◌⊎◌, inl, inr, ⊎_elim, Vec, Global, Option, Some, None, is_some}
use Rattle.std.specs.Prelude.{slice_get, slice_index_or}
use Rattle.std.specs.List.{list_any}
use Rattle.std.specs.Option.{option_map_or}
use Rattle.std.proofs.lemmas.List.{length-map, length-append}
use Rattle.gq_text.specs.declared.place.Span.{Span}
use Rattle.gq_graph.specs.Reach.{row, InRange, LeadsBack}
use Rattle.gq_tree.specs.Plain.{InputOf}
use Rattle.gq_types.specs.Entries.{Text, EntryOf, numbered}
use Rattle.gq_types.specs.Joined.{type_number}
use Rattle.gq_types.specs.Look.{joined_numbers}
use Rattle.gq_types.specs.Names.{input_named}
use Rattle.gq_type_system.specs.EndlessInputs.{InputField, Way, step, further, LeadsByDefault}
use Rattle.gq_type_system.specs.Helping.EndlessInputsPlaces.{row_items, inputs_at, type_name_at, MarksByDefault}
use Rattle.gq_type_system.specs.Helping.DefaultValuesPlaces.{has_default, absent_number, numbers_of, all_with_defaults, led_at, field_leads, lead_table, any_marked, named_field, named_fields_at, fields_at, all_fields, field_rows, field_numbers}
use Rattle.gq_type_system.proofs.Ways.{Next, joined, ways_lead_back, first_step, carried, carried_back}
use Rattle.gq_type_system.proofs.EntryRows.{row_is, in_range, rows_are, length_numbered}
use Rattle.gq_type_system.proofs.RequiredLemmas.{number_below, from_inputs, input_of_name, type_name_is}
use Rattle.gq_type_system.proofs.Numbering.{numbered_item, item_numbered, length_number_rows, front_row, behind_row, part_cases}
use Rattle.gq_type_system.proofs.DefaultLemmas.{Graph, from_number, each_absent, from_led, to_led, from_leads, to_leads}
use Rattle.gq_types.proofs.Gathered.{nothing_in as in_none, first as in_first, later as in_later, from_flat, to_flat, from_map, to_map}

module _ {A : Type 0} where
  get_inside : (xs : List A) (i : ℕ) (x : A) → slice_get xs i ≡ Some x → i < length xs
  get_inside [] i x is = absurd (cc)
  get_inside (w ∷ xs) zero x is = omega arith
  get_inside (w ∷ xs) (suc i) x is = let rest = get_inside xs i x is in omega arith

  inside_get : (xs : List A) (i : ℕ) → i < length xs → (x : A) × (slice_get xs i ≡ Some x)
  inside_get [] i below = absurd (omega arith)
  inside_get (w ∷ xs) zero below = (w, refl)
  inside_get (w ∷ xs) (suc i) below = inside_get xs i (omega arith)

  get_mapped : {B : Type 0} (g : A → B) (xs : List A) (i : ℕ) (x : A) (d : B) → slice_get xs i ≡ Some x → get_or (map g xs) i d ≡ g x
  get_mapped g [] i x d is = absurd (cc)
  get_mapped g (w ∷ xs) zero x d is = let same : w ≡ x = cc in ap g same
  get_mapped g (w ∷ xs) (suc i) x d is = get_mapped g xs i x d is

  default_mapped : {B : Type 0} (g : A → B) (xs : List A) (n : ℕ) (d : A) → get_or (map g xs) n (g d) ≡ g (get_or xs n d)
  default_mapped g [] n d = refl
  default_mapped g (x ∷ xs) zero d = refl
  default_mapped g (x ∷ xs) (suc n) d = default_mapped g xs n d

  module _ (p : A → Bool) where
    any_cases : (w : A) (xs : List A) (b : Bool) → p w ≡ b → (b || list_any p xs) ≡ true → (list_any p xs ≡ true → (x : A) × Contains xs x × (p x ≡ true)) → (x : A) × Contains (w ∷ xs) x × (p x ≡ true)
    any_cases w xs true passes is later = (w, in_first w w xs refl, passes)
    any_cases w xs false passes is later = let rest = later is in (rest.0, in_later w rest.0 xs rest.1, rest.2)

    from_any : (xs : List A) → list_any p xs ≡ true → (x : A) × Contains xs x × (p x ≡ true)
    from_any [] is = absurd (cc)
    from_any (w ∷ xs) is = any_cases w xs (p w) refl is (λ later. from_any xs later)

    any_at : (xs : List A) (k : ℕ) (x : A) → k < length xs → get_or xs k x ≡ x → p x ≡ true → list_any p xs ≡ true
    any_at [] k x below is passes = absurd (omega arith)
    any_at (w ∷ xs) zero x below is passes = ap (λ b. b || list_any p xs) (ap p is ∙ passes)
    any_at (w ∷ xs) (suc k) x below is passes = or_right (p w) (list_any p xs) (any_at xs k x (omega arith) is passes)
      where
        or_right : (a b : Bool) → b ≡ true → (a || b) ≡ true
        or_right true b is = refl
        or_right false b is = is

-- a field that a name means is one of its type
field_of_name : (es : List EntryOf) (field : InputField) (input : InputOf Span) → input_named es field.type_name field.name ≡ Some input
    → (number : ℕ) × (type_number es field.type_name ≡ Some number) × Contains (fields_at es number) field
field_of_name es field input is =
    let meant = input_of_name es field.type_name field.name input is in
    let entry = from_inputs es meant.0 meant.2 meant.3 in
    let put = to_flat (named_fields_at es (type_name_at es meant.0)) (joined_numbers es meant.0) entry.0 (named_field (type_name_at es meant.0) meant.2.it) entry.1
    (to_map (named_field (type_name_at es meant.0)) (inputs_at es entry.0) meant.2.it entry.2) in
    let name = ap (λ (i : InputOf Span). i.name.text) meant.4 ∙ sym meant.5 in
    let same : named_field (type_name_at es meant.0) meant.2.it ≡ field =
    (λ j. record { type_name = type_name_is es field.type_name meant.0 meant.1 j; name = name j }) in
    (meant.0, meant.1, subst (λ f. Contains (fields_at es meant.0) f) same put)

-- a field of a type has the type's name
type_of_field : (es : List EntryOf) (number : ℕ) (field : InputField) → Contains (fields_at es number) field → field.type_name ≡ type_name_at es number
type_of_field es number field found =
    let entry = from_flat (named_fields_at es (type_name_at es number)) (joined_numbers es number) field found in
    let input = from_map (named_field (type_name_at es number)) (inputs_at es entry.0) field entry.2 in
    ap (λ (f : InputField). f.type_name) (sym input.2)

module _ (es : List EntryOf) where
  fields_are : (number : ℕ) → number < length es → get_or (field_rows es) number [] ≡ fields_at es number
  fields_are number below = rows_are (fields_at es) es number [] below

  -- a number in the row of a type is that of one of its fields
  field_in_row : (text : Text) (number i : ℕ) → type_number es text ≡ Some number → Contains (get_or (field_numbers es) number []) i
      → (field : InputField) × (slice_get (all_fields es) i ≡ Some field) × (field.type_name ≡ text)
  field_in_row text number i meant found =
      let fault = numbered_item (field_rows es) number i found in
      let of_type = subst (λ fs. Contains fs fault.0) (fields_are number (number_below es text number meant)) fault.2 in
      (fault.0, fault.1, type_of_field es number fault.0 of_type ∙ type_name_is es text number meant)

  -- the number is one of the field
  record Named (i : ℕ) (field : InputField) : Type 0 where
    number : ℕ
    meant : type_number es field.type_name ≡ Some number
    at : slice_get (all_fields es) i ≡ Some field
    in_row : Contains (get_or (field_numbers es) number []) i

  one_field : (i : ℕ) (f g : InputField) → Named i f → Named i g → f ≡ g
  one_field i f g a b = let is : Some f ≡ Some g = sym a.at ∙ b.at in cc

  has_number : (f g : InputField) → LeadsByDefault es f g → (i : ℕ) × Named i f
  has_number f g leads =
      let found = field_of_name es f leads.field leads.is_field in
      let numbered = item_numbered (field_rows es) found.0 f (subst (λ fs. Contains fs f) (sym (fields_are found.0 (number_below es f.type_name found.0 found.1))) found.2) in
      (numbered.0, record { number = found.0; meant = found.1; at = numbered.1; in_row = numbered.2 })

  from_has_default : (f : InputField) → has_default es f ≡ true → (input : InputOf Span) × (input_named es f.type_name f.name ≡ Some input) × (is_some input.default ≡ true)
  from_has_default f has = by (input_named es f.type_name f.name) refl has
    where
      by : (o : Option (InputOf Span)) → input_named es f.type_name f.name ≡ o → option_map_or (λ (i : InputOf Span). is_some i.default) o false ≡ true
          → (input : InputOf Span) × (input_named es f.type_name f.name ≡ Some input) × (is_some input.default ≡ true)
      by None is has = absurd (cc)
      by (Some input) is has = (input, is, has)

  in_numbers : (text : Text) (i : ℕ) → Contains (numbers_of es (field_numbers es) text) i → (number : ℕ) × (type_number es text ≡ Some number) × Contains (get_or (field_numbers es) number []) i
  in_numbers text i found = by (type_number es text) refl found
    where
      by : (o : Option ℕ) → type_number es text ≡ o → Contains (option_map_or (λ number. slice_index_or (field_numbers es) number []) o []) i
          → (number : ℕ) × (type_number es text ≡ Some number) × Contains (get_or (field_numbers es) number []) i
      by None is found = absurd (in_none i found)
      by (Some number) is found = (number, is, found)

  to_named : (f : InputField) (j : ℕ) → Graph es (all_fields es) (field_numbers es) f j → (g : InputField) × Named j g × LeadsByDefault es f g
  to_named f j leads =
      let a = leads.absent in
      let row_in = in_numbers a.type_name j a.in_row in
      let fault = field_in_row a.type_name row_in.0 j row_in.1 row_in.2 in
      let some : Some fault.0 ≡ Some a.field = sym fault.1 ∙ a.is_field in
      let same : fault.0 ≡ a.field = cc in
      let type_is : a.type_name ≡ a.field.type_name = sym fault.2 ∙ ap (λ (f : InputField). f.type_name) same in
      let other = from_has_default a.field a.has_default_value in (
        a.field,
        record { number = row_in.0; meant = ap (type_number es) (sym type_is) ∙ row_in.1; at = a.is_field; in_row = row_in.2 },
        record {
          field = leads.read.field;
          default = leads.read.default;
          is_field = leads.read.is_field;
          has_default = leads.read.has_default_value;
          literal = leads.read.literal;
          literal_type = leads.read.literal_type;
          holds = leads.read.holds;
          is_object = a.is_object;
          is_at = a.is_at ∙ ap Some type_is;
          is_absent = a.is_absent;
          other = other.0;
          is_other = other.1;
          other_has_default = other.2;
        },
      )

  from_named : (f g : InputField) (j : ℕ) → Named j g → LeadsByDefault es f g → Graph es (all_fields es) (field_numbers es) f j
  from_named f g j named leads = record {
    read = record {
      field = leads.field;
      default = leads.default;
      is_field = leads.is_field;
      has_default_value = leads.has_default;
      literal = leads.literal;
      literal_type = leads.literal_type;
      holds = leads.holds;
    };
    absent = record {
      is_object = leads.is_object;
      type_name = g.type_name;
      is_at = leads.is_at;
      field = g;
      in_row = subst (λ o. Contains (option_map_or (λ number. slice_index_or (field_numbers es) number []) o []) j) (sym named.meant) named.in_row;
      is_field = named.at;
      is_absent = leads.is_absent;
      has_default_value = ap (λ o. option_map_or (λ (i : InputOf Span). is_some i.default) o false) leads.is_other ∙ leads.other_has_default;
    };
  }

  numbers_length : length (field_numbers es) ≡ length es
  numbers_length = length_number_rows 0 (field_rows es) ∙ length-map (numbered es) (λ n. fields_at es n.number) ∙ length_numbered es

  -- a field leads to another, by their numbers
  record Leads (i j : ℕ) : Type 0 where
    field : InputField
    at : slice_get (all_fields es) i ≡ Some field
    graph : Graph es (all_fields es) (field_numbers es) field j

  from_inside : (i j : ℕ) → Leads i j → i < length (all_fields es)
  from_inside i j l = get_inside (all_fields es) i l.field l.at

  to_inside : (i j : ℕ) → Leads i j → j < length (all_fields es)
  to_inside i j l = get_inside (all_fields es) j l.graph.absent.field l.graph.absent.is_field

  all_inside : (numbers : List ℕ) (i : ℕ) → Contains (all_with_defaults es (all_fields es) numbers) i → i < length (all_fields es)
  all_inside numbers i found =
      let number = from_flat (absent_number es (all_fields es) []) numbers i found in
      let at = from_number es (all_fields es) (field_numbers es) [] number.0 i number.2 in
      get_inside (all_fields es) i at.1 at.2

  leads_by_name : (i j : ℕ) (f : InputField) → Named i f → Leads i j → (g : InputField) × Named j g × LeadsByDefault es f g
  leads_by_name i j f named l =
      let some : Some l.field ≡ Some f = sym l.at ∙ named.at in
      let same : l.field ≡ f = cc in
      to_named f j (subst (λ f. Graph es (all_fields es) (field_numbers es) f j) same l.graph)

  leads_by_number : (i j : ℕ) (f g : InputField) → Named i f → Named j g → LeadsByDefault es f g → Leads i j
  leads_by_number i j f g named other leads = record { field = f; at = named.at; graph = from_named f g j other leads }

  module _ (rows : List (Vec ℕ Global)) (is : row_items rows ≡ lead_table es (all_fields es) (field_numbers es)) where
    rows_length : length rows ≡ length (all_fields es) + length (field_numbers es)
    rows_length = sym (length-map rows (λ v. v.items)) ∙ ap length is
        ∙ length-append (map (field_leads es (all_fields es) (field_numbers es)) (all_fields es)) (map (all_with_defaults es (all_fields es)) (field_numbers es))
        ∙ (λ i. length-map (all_fields es) (field_leads es (all_fields es) (field_numbers es)) i + length-map (field_numbers es) (all_with_defaults es (all_fields es)) i)

    at_row : (n : ℕ) → row rows n ≡ get_or (lead_table es (all_fields es) (field_numbers es)) n []
    at_row n = row_is rows n ∙ ap (λ xss. get_or xss n []) is

    field_row : (i : ℕ) (f : InputField) → slice_get (all_fields es) i ≡ Some f → row rows i ≡ field_leads es (all_fields es) (field_numbers es) f
    field_row i f at = at_row i ∙ front_row (field_leads es (all_fields es) (field_numbers es)) (all_fields es) (map (all_with_defaults es (all_fields es)) (field_numbers es)) i f at

    type_row : (k n : ℕ) → n ≡ length (all_fields es) + k → row rows n ≡ all_with_defaults es (all_fields es) (get_or (field_numbers es) k [])
    type_row k n at = at_row n ∙ behind_row (field_leads es (all_fields es) (field_numbers es)) (all_fields es) (map (all_with_defaults es (all_fields es)) (field_numbers es)) k n at
        ∙ default_mapped (all_with_defaults es (all_fields es)) (field_numbers es) k []

    in_type_row : (k n x : ℕ) → n ≡ length (all_fields es) + k → Contains (row rows n) x → x < length (all_fields es)
    in_type_row k n x at found = all_inside (get_or (field_numbers es) k []) x (subst (λ ns. Contains ns x) (type_row k n at) found)

    -- the number of an entry, whose row holds only what a field leads to
    record Between (i x : ℕ) : Type 0 where
      number : ℕ
      inside : number < length (field_numbers es)
      at : x ≡ length (all_fields es) + number
      each : (j : ℕ) → Contains (row rows x) j → Leads i j

    one_step : (i x : ℕ) (f : InputField) → slice_get (all_fields es) i ≡ Some f → Contains (row rows i) x → Leads i x ⊎ Between i x
    one_step i x f at found =
        let led = from_leads es (all_fields es) (field_numbers es) f x (subst (λ ns. Contains ns x) (field_row i f at) found) in
        let says = led.0.literal.label.says in
        ⊎_elim
        (λ absent. inl (record { field = f; at = at; graph = record { read = led.0; absent = absent } }))
        (λ all. inr (record {
          number = all.number;
          inside = all.inside;
          at = all.is;
          each = λ j there. record {
            field = f;
            at = at;
            graph = record {
              read = led.0;
              absent = each_absent es (all_fields es) (field_numbers es) led.0.literal_type says led.0.literal.below x j all (subst (λ ns. Contains ns j) (type_row all.number x all.is) there);
            };
          };
        }))
        (from_led es (all_fields es) (field_numbers es) led.0.literal_type says led.0.literal.below x led.1)

    pub defaults_in_range : InRange rows
    defaults_in_range = in_range rows (λ m n below found. ⊎_elim
        (λ a. ⊎_elim
        (λ l. let inside = to_inside m n l in omega (arith, rows_length))
        (λ (b : Between m n). let inside = b.inside in let at = b.at in omega (arith, rows_length))
        (one_step m n a.0 a.1 found))
        (λ b. let inside = in_type_row b.0 m n b.1 found in omega (arith, rows_length))
        (part_cases (all_fields es) m))

    -- what a way over the rows comes to, from a field or from an entry
    abbrev Rest : ℕ → ℕ → Type 0
    Rest y j = (y ≡ j) ⊎ Way Leads y j

    record FromEntry (x j : ℕ) : Type 0 where
      number : ℕ
      at : x ≡ length (all_fields es) + number
      field : ℕ
      in_row : Contains (row rows x) field
      rest : Rest field j

    abbrev Ends : ℕ → ℕ → Type 0
    Ends x j = Way Leads x j ⊎ FromEntry x j

    onward : (i y j : ℕ) → Leads i y → Rest y j → Way Leads i j
    onward i y j l (inl same) = step (subst (Leads i) same l)
    onward i y j l (inr way) = further l way

    way_inside : (y j : ℕ) → Way Leads y j → y < length (all_fields es)
    way_inside y j way = let first = first_step Leads way in from_inside y first.0 first.1

    field_first : (i y j : ℕ) → j < length (all_fields es) → Leads i y ⊎ Between i y → (y ≡ j) ⊎ Ends y j → Way Leads i j
    field_first i y j below (inl l) (inl same) = onward i y j l (inl same)
    field_first i y j below (inl l) (inr (inl way)) = onward i y j l (inr way)
    field_first i y j below (inl l) (inr (inr entry)) = let inside = to_inside i y l in let at = entry.at in absurd (omega (arith, inside, at))
    field_first i y j below (inr b) (inl same) = let at = b.at in absurd (omega (arith, at, same))
    field_first i y j below (inr b) (inr (inl way)) = let inside = way_inside y j way in let at = b.at in absurd (omega (arith, inside, at))
    field_first i y j below (inr b) (inr (inr entry)) = onward i entry.field j (b.each entry.field entry.in_row) entry.rest

    entry_first : (k x y j : ℕ) → x ≡ length (all_fields es) + k → Contains (row rows x) y → (y ≡ j) ⊎ Ends y j → FromEntry x j
    entry_first k x y j at found (inl same) = record { number = k; at = at; field = y; in_row = found; rest = inl same }
    entry_first k x y j at found (inr (inl way)) = record { number = k; at = at; field = y; in_row = found; rest = inr way }
    entry_first k x y j at found (inr (inr entry)) = let inside = in_type_row k x y at found in let other = entry.at in absurd (omega (arith, inside, other))

    ends : (x y j : ℕ) → j < length (all_fields es) → Next (row rows) x y → (y ≡ j) ⊎ Ends y j → Ends x j
    ends x y j below found rest = ⊎_elim
        (λ a. inl (field_first x y j below (one_step x y a.0 a.1 found) rest))
        (λ b. inr (entry_first b.0 x y j b.1 found rest))
        (part_cases (all_fields es) x)

    ways_end : (x j : ℕ) → j < length (all_fields es) → Way (Next (row rows)) x j → Ends x j
    ways_end x j below (step found) = ends x j j below found (inl refl)
    ways_end x j below (further {y = y} found rest) = ends x y j below found (inr (ways_end y j below rest))

    from_rows_back : (i : ℕ) → i < length (all_fields es) → Way (Next (row rows)) i i → Way Leads i i
    from_rows_back i below way = by (ways_end i i below way)
      where
        by : Ends i i → Way Leads i i
        by (inl back) = back
        by (inr entry) = let at = entry.at in absurd (omega (arith, below, at))

    one_lead : (i j : ℕ) → Leads i j → Way (Next (row rows)) i j
    one_lead i j l =
        let a = l.graph.absent in
        let r = l.graph.read in
        let meant = in_numbers a.type_name j a.in_row in
        let node = length (all_fields es) + meant.0 in
        let put : (x : ℕ) → Contains (led_at es (all_fields es) (field_numbers es) r.literal_type r.literal.label.says r.literal.below) x → Next (row rows) i x =
        (λ x led. subst (λ ns. Contains ns x) (sym (field_row i l.field l.at)) (to_leads es (all_fields es) (field_numbers es) l.field x r led)) in
        ⊎_elim
        (λ led. step (put j led))
        (λ both. further (put node both.0) (step (subst (λ ns. Contains ns j) (sym (type_row meant.0 node refl)) both.1)))
        (to_led es (all_fields es) (field_numbers es) r.literal_type r.literal.label.says r.literal.below meant.0 j a meant.1 (omega (arith, numbers_length, number_below es a.type_name meant.0 meant.1)))

    to_rows_way : (i j : ℕ) → Way Leads i j → Way (Next (row rows)) i j
    to_rows_way i j (step l) = one_lead i j l
    to_rows_way i j (further {y = y} l rest) = joined (Next (row rows)) (one_lead i y l) (to_rows_way y j rest)

    pub marks_by_default : (marks : List Bool) → ((n : ℕ) → n < length rows → (slice_index_or marks n false ≡ true) ↔ LeadsBack (row rows) n) → MarksByDefault es (map (any_marked marks) (field_numbers es))
    marks_by_default marks exact text number meant = (from, to)
      where
        mark_is : slice_index_or (map (any_marked marks) (field_numbers es)) number false ≡ any_marked marks (get_or (field_numbers es) number [])
        mark_is = default_mapped (any_marked marks) (field_numbers es) number []

        from : slice_index_or (map (any_marked marks) (field_numbers es)) number false ≡ true → (field : InputField) × (field.type_name ≡ text) × Way (LeadsByDefault es) field field
        from marked =
            let any = from_any (λ n. slice_index_or marks n false) (get_or (field_numbers es) number []) (sym mark_is ∙ marked) in
            let fault = field_in_row text number any.0 meant any.1 in
            let named : Named any.0 fault.0 = record { number = number; meant = ap (type_number es) fault.2 ∙ meant; at = fault.1; in_row = any.1 } in
            let inside = get_inside (all_fields es) any.0 fault.0 fault.1 in
            let back = (exact any.0 (omega (arith, rows_length))).0 any.2 in
            (fault.0, fault.2, carried Leads (LeadsByDefault es) Named (λ i j f. leads_by_name i j f) (λ i f g. one_field i f g) any.0 any.0 fault.0 fault.0 (from_rows_back any.0 inside ((ways_lead_back (row rows) any.0).0 back)) named named)

        to : (field : InputField) × (field.type_name ≡ text) × Way (LeadsByDefault es) field field → slice_index_or (map (any_marked marks) (field_numbers es)) number false ≡ true
        to (field, of_type, way) =
            let first = first_step (LeadsByDefault es) way in
            let numbered = has_number field first.0 first.1 in
            let named = numbered.1 in
            let some : Some named.number ≡ Some number = sym named.meant ∙ ap (type_number es) of_type ∙ meant in
            let same : named.number ≡ number = cc in
            let inside = get_inside (all_fields es) numbered.0 field named.at in
            let back = carried_back Leads (LeadsByDefault es) Named (λ i j f g. leads_by_number i j f g) (λ f g leads. has_number f g leads) numbered.0 numbered.0 field field way named named in
            let marked = (exact numbered.0 (omega (arith, rows_length))).1 ((ways_lead_back (row rows) numbered.0).1 (to_rows_way numbered.0 numbered.0 back)) in
            let in_row : Contains (get_or (field_numbers es) number []) numbered.0 = subst (λ n. Contains (get_or (field_numbers es) n []) numbered.0) same named.in_row in
            mark_is ∙ any_at (λ n. slice_index_or marks n false) (get_or (field_numbers es) number []) in_row.0 numbered.0 in_row.1 in_row.2 marked
