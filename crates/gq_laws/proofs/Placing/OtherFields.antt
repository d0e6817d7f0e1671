-- Look-ups in type systems that are equal but for their places and for fields of some names.
use Rattle.std.proofs.Common.{◌≡◌, ℕ, ◌+◌, Bool, true, false, cond, List, [], ◌∷◌, ◌++◌, Option, Some, None, map, flat_map, length, unwrap_or, refl, sym, ap, ◌∙◌}
use Rattle.std.specs.Prelude.{find, position, filter, not, nat_eq, is_some, option_and_then, if◌then◌else◌}
use Rattle.std.specs.List.{list_any}
use Rattle.std.specs.Option.{option_map, option_map_or, option_or}
use Rattle.std.specs.Str.{bytes_eq}
use Rattle.std.specs.Cmp.Lexicographic.{bytes_decides}
use Rattle.std.proofs.lemmas.List.{length-map}
use Rattle.std.proofs.lemmas.Simd.{map-map}
use Rattle.std.proofs.lemmas.List.Folds.{find-append, flat_map-map}
use Rattle.gq_text.specs.declared.place.Span.{Span}
use Rattle.gq_tree.specs.declared.tree.OperationKind.{OperationKind}
use Rattle.gq_tree.specs.Plain.{FieldDefinitionOf, BodyOf, scalar_type, object_type, interface_type, union_type, enum_type, input_type, TypeSystemOf, schema, type_definition, directive_definition, place_field, place_input, place_type_system, no_place}
use Rattle.gq_tree.specs.Same.{same_kinds}
use Rattle.gq_types.specs.declared.entry.TypeKind.{TypeKind}
use Rattle.gq_types.specs.declared.entry.TypeKind.TheVariants as kinds
use Rattle.gq_types.specs.Entries.{Text, EntryOf, Numbered, numbered_from, numbered}
use Rattle.gq_types.specs.ErasedEntries.{erase_entry}
use Rattle.gq_types.specs.Kinds.{kind_of, same_kind}
use Rattle.gq_types.specs.Joined.{is_type_named, is_directive_named, is_schema, kind_in, type_number, kind_named, schema_number, owner_of_extension, owner_of, owner, joined, In, put_in, body_in, parts_in, parts_of, fields_in_body, values_in_body, inputs_in_body, members_in_body, interfaces_in_body}
use Rattle.gq_types.specs.Names.{field_named, input_named, directive_named}
use Rattle.gq_types.specs.Roots.{roots_in, roots_of, is_object, default_name, default_root, entry_for, named_root, root_of}
use Rattle.gq_types.proofs.Searches.{position_map, position_agree}
use Rattle.gq_laws.specs.Placing.Types.{LooksAlike}
use Rattle.gq_laws.specs.Placing.OtherFields.{is_one_of, fields_without, body_without, definition_without, TypesLookAlikeBut}
use Rattle.gq_laws.proofs.Placing.Entries.{types_look_alike}

-- What is found in a list whose things are changed where the test does not see it.
module _ {A B : Type 0} (f : A → B) (p : B → Bool) (q : A → Bool) (blind : (a : A) → p (f a) ≡ q a) where
  found_step : (b : Bool) (a : A) (o : Option A) → cond b (Some (f a)) (option_map f o) ≡ option_map f (cond b (Some a) o)
  found_step true a o = refl
  found_step false a o = refl

  found : (xs : List A) → find p (map f xs) ≡ option_map f (find q xs)
  found [] = refl
  found (a ∷ xs) = ap (λ b. cond b (Some (f a)) (find p (map f xs))) (blind a) ∙ ap (λ o. cond (q a) (Some (f a)) o) (found xs) ∙ found_step (q a) a (find q xs)

  kept_step : (b : Bool) (a : A) (xs : List A) → cond b (f a ∷ map f xs) (map f xs) ≡ map f (cond b (a ∷ xs) xs)
  kept_step true a xs = refl
  kept_step false a xs = refl

  kept : (xs : List A) → filter p (map f xs) ≡ map f (filter q xs)
  kept [] = refl
  kept (a ∷ xs) = ap (λ b. cond b (f a ∷ filter p (map f xs)) (filter p (map f xs))) (blind a) ∙ ap (λ z. cond (q a) (f a ∷ z) z) (kept xs) ∙ kept_step (q a) a (filter q xs)

  positions : (xs : List A) → position p (map f xs) ≡ position q xs
  positions xs = position_map p f xs ∙ position_agree (λ a. p (f a)) q blind xs

gathered_same : {A B : Type 0} (f g : A → List B) → ((a : A) → f a ≡ g a) → (xs : List A) → flat_map f xs ≡ flat_map g xs
gathered_same f g each [] = refl
gathered_same f g each (a ∷ xs) = ap (λ z. z ++ flat_map f xs) (each a) ∙ ap (λ z. g a ++ z) (gathered_same f g each xs)

-- what is found in what is gathered is found in the first that has it
found_gathered : {A B : Type 0} (p : B → Bool) (f g : A → List B) → ((a : A) → find p (f a) ≡ find p (g a)) → (xs : List A) → find p (flat_map f xs) ≡ find p (flat_map g xs)
found_gathered p f g each [] = refl
found_gathered p f g each (a ∷ xs) =
    find-append p (f a) (flat_map f xs) ∙ ap (λ o. option_or o (find p (flat_map f xs))) (each a) ∙ ap (λ o. option_or (find p (g a)) o) (found_gathered p f g each xs)
    ∙ sym (find-append p (g a) (flat_map g xs))

and_then_each : {A B : Type 0} (f g : A → Option B) → ((a : A) → f a ≡ g a) → (o : Option A) → option_and_then f o ≡ option_and_then g o
and_then_each f g each None = refl
and_then_each f g each (Some a) = each a

map_or_each : {A B : Type 0} (f g : A → B) (d : B) → ((a : A) → f a ≡ g a) → (o : Option A) → option_map_or f o d ≡ option_map_or g o d
map_or_each f g d each None = refl
map_or_each f g d each (Some a) = each a

and_then_changed : {A B C : Type 0} (f : A → B) (g : B → Option C) (h : A → Option C) → ((a : A) → g (f a) ≡ h a) → (o : Option A) → option_and_then g (option_map f o) ≡ option_and_then h o
and_then_changed f g h each None = refl
and_then_changed f g h each (Some a) = each a

-- whether a field has that name
abbrev is_sought : Text → In (FieldDefinitionOf Span) → Bool
is_sought text f = bytes_eq text f.it.name.text

module _ (names : List Text) where
  -- an entry without the fields of those names
  abbrev pub without : EntryOf → EntryOf
  without e = record { file = e.file; definition = definition_without names e.definition }

  abbrev pub renumbered : Numbered → Numbered
  renumbered n = record { number = n.number; entry = without n.entry }

  -- what those fields have no part in
  kind_stays : (b : BodyOf Span) → kind_of (body_without names b) ≡ kind_of b
  kind_stays scalar_type = refl
  kind_stays (object_type interfaces fields) = refl
  kind_stays (interface_type interfaces fields) = refl
  kind_stays (union_type members) = refl
  kind_stays (enum_type values) = refl
  kind_stays (input_type fields) = refl

  type_named_stays : (text : Text) (d : TypeSystemOf Span) → is_type_named text (definition_without names d) ≡ is_type_named text d
  type_named_stays text (schema extends description directives roots place) = refl
  type_named_stays text (type_definition true description name directives body place) = refl
  type_named_stays text (type_definition false description name directives body place) = refl
  type_named_stays text (directive_definition description name arguments repeatable locations place) = refl

  schema_stays : (d : TypeSystemOf Span) → is_schema (definition_without names d) ≡ is_schema d
  schema_stays (schema extends description directives roots place) = refl
  schema_stays (type_definition extends description name directives body place) = refl
  schema_stays (directive_definition description name arguments repeatable locations place) = refl

  kind_in_stays : (d : TypeSystemOf Span) → kind_in (definition_without names d) ≡ kind_in d
  kind_in_stays (schema extends description directives roots place) = refl
  kind_in_stays (type_definition extends description name directives body place) = ap (λ z. Some z) (kind_stays body)
  kind_in_stays (directive_definition description name arguments repeatable locations place) = refl

  roots_stay : (d : TypeSystemOf Span) → roots_in (definition_without names d) ≡ roots_in d
  roots_stay (schema extends description directives roots place) = refl
  roots_stay (type_definition extends description name directives body place) = refl
  roots_stay (directive_definition description name arguments repeatable locations place) = refl

  body_is_without : (d : TypeSystemOf Span) → body_in (definition_without names d) ≡ body_without names (body_in d)
  body_is_without (schema extends description directives roots place) = refl
  body_is_without (type_definition extends description name directives body place) = refl
  body_is_without (directive_definition description name arguments repeatable locations place) = refl

  -- parts of a body that those fields are none of
  abbrev PartsStay : {A : Type 0} → (BodyOf Span → List A) → Type 0
  PartsStay parts = (b : BodyOf Span) → parts (body_without names b) ≡ parts b

  interfaces_stay : PartsStay interfaces_in_body
  interfaces_stay scalar_type = refl
  interfaces_stay (object_type interfaces fields) = refl
  interfaces_stay (interface_type interfaces fields) = refl
  interfaces_stay (union_type members) = refl
  interfaces_stay (enum_type values) = refl
  interfaces_stay (input_type fields) = refl

  members_stay : PartsStay members_in_body
  members_stay scalar_type = refl
  members_stay (object_type interfaces fields) = refl
  members_stay (interface_type interfaces fields) = refl
  members_stay (union_type members) = refl
  members_stay (enum_type values) = refl
  members_stay (input_type fields) = refl

  values_stay : PartsStay values_in_body
  values_stay scalar_type = refl
  values_stay (object_type interfaces fields) = refl
  values_stay (interface_type interfaces fields) = refl
  values_stay (union_type members) = refl
  values_stay (enum_type values) = refl
  values_stay (input_type fields) = refl

  inputs_stay : PartsStay inputs_in_body
  inputs_stay scalar_type = refl
  inputs_stay (object_type interfaces fields) = refl
  inputs_stay (interface_type interfaces fields) = refl
  inputs_stay (union_type members) = refl
  inputs_stay (enum_type values) = refl
  inputs_stay (input_type fields) = refl

  -- a field of another name is found among those that are left
  module _ (text : Text) (other : is_one_of names text ≡ false) where
    not_both : (name : Text) → is_one_of names name ≡ true → bytes_eq text name ≡ true → ⊥
    not_both name one same =
        let equal : is_one_of names text ≡ is_one_of names name = ap (λ z. is_one_of names z) ((bytes_decides text name).0 same) in
        let both : false ≡ true = sym other ∙ equal ∙ one in
        absurd (cc)

    left_step : (file : ℕ) (f : FieldDefinitionOf Span) (kept_fields fields : List (FieldDefinitionOf Span)) (one same : Bool) →
        is_one_of names f.name.text ≡ one → bytes_eq text f.name.text ≡ same →
        find (is_sought text) (put_in file kept_fields) ≡ find (is_sought text) (put_in file fields) →
        find (is_sought text) (put_in file (cond (not one) (f ∷ kept_fields) kept_fields)) ≡ cond same (Some (record { file = file; it = f })) (find (is_sought text) (put_in file fields))
    left_step file f kept_fields fields false same one_is same_is rest =
        ap (λ b. cond b (Some (record { file = file; it = f })) (find (is_sought text) (put_in file kept_fields))) same_is ∙ ap (λ o. cond same (Some (record { file = file; it = f })) o) rest
    left_step file f kept_fields fields true true one_is same_is rest = absurd (not_both f.name.text one_is same_is)
    left_step file f kept_fields fields true false one_is same_is rest = rest

    left : (file : ℕ) (fields : List (FieldDefinitionOf Span)) → find (is_sought text) (put_in file (fields_without names fields)) ≡ find (is_sought text) (put_in file fields)
    left file [] = refl
    left file (f ∷ fields) = left_step file f (fields_without names fields) fields (is_one_of names f.name.text) (bytes_eq text f.name.text) refl refl (left file fields)

    left_in_body : (file : ℕ) (b : BodyOf Span) → find (is_sought text) (put_in file (fields_in_body (body_without names b))) ≡ find (is_sought text) (put_in file (fields_in_body b))
    left_in_body file scalar_type = refl
    left_in_body file (object_type interfaces fields) = left file fields
    left_in_body file (interface_type interfaces fields) = left file fields
    left_in_body file (union_type members) = refl
    left_in_body file (enum_type values) = refl
    left_in_body file (input_type fields) = refl

    left_in : (e : EntryOf) → find (is_sought text) (parts_in fields_in_body (without e)) ≡ find (is_sought text) (parts_in fields_in_body e)
    left_in e = ap (λ b. find (is_sought text) (put_in e.file (fields_in_body b))) (body_is_without e.definition) ∙ left_in_body e.file (body_in e.definition)

  part_stays : {A : Type 0} (parts : BodyOf Span → List A) → PartsStay parts → (e : EntryOf) → parts_in parts (without e) ≡ parts_in parts e
  part_stays parts stay e = ap (λ b. put_in e.file (parts b)) (body_is_without e.definition) ∙ ap (λ xs. put_in e.file xs) (stay (body_in e.definition))

  chosen : (b : Bool) (e : EntryOf) (o u : Option EntryOf) → option_map (λ e. e.definition) o ≡ option_map (λ e. e.definition) u →
      option_map (λ e. e.definition) (cond b (Some e) o) ≡ option_map (λ e. e.definition) (cond b (Some e) u)
  chosen true e o u rest = refl
  chosen false e o u rest = rest

  -- a directive has no fields
  directive_step : (text : Text) (file : ℕ) (d : TypeSystemOf Span) (o u : Option EntryOf) → option_map (λ e. e.definition) o ≡ option_map (λ e. e.definition) u →
      option_map (λ e. e.definition) (cond (is_directive_named text (definition_without names d)) (Some (record { file = file; definition = definition_without names d })) o)
      ≡ option_map (λ e. e.definition) (cond (is_directive_named text d) (Some (record { file = file; definition = d })) u)
  directive_step text file (schema extends description directives roots place) o u rest = rest
  directive_step text file (type_definition extends description name directives body place) o u rest = rest
  directive_step text file (directive_definition description name arguments repeatable locations place) o u rest =
      chosen (bytes_eq text name.text) (record { file = file; definition = directive_definition description name arguments repeatable locations place }) o u rest

  directives_left : (text : Text) (es : List EntryOf) → directive_named (map without es) text ≡ directive_named es text
  directives_left text [] = refl
  directives_left text (e ∷ es) =
      directive_step text e.file e.definition (find (λ e. is_directive_named text e.definition) (map without es)) (find (λ e. is_directive_named text e.definition) es) (directives_left text es)

  pub numbered_without : (k : ℕ) (es : List EntryOf) → numbered_from k (map without es) ≡ map renumbered (numbered_from k es)
  numbered_without k [] = refl
  numbered_without k (e ∷ es) = ap (λ z. renumbered (record { number = k; entry = e }) ∷ z) (numbered_without (k + 1) es)

  module _ (es : List EntryOf) where
    abbrev left_over : List EntryOf
    left_over = map without es

    pub kind_same : (text : Text) → kind_named left_over text ≡ kind_named es text
    kind_same text =
        ap (λ o. option_and_then (λ e. kind_in e.definition) o)
        (found without (λ e. is_type_named text e.definition) (λ e. is_type_named text e.definition) (λ e. type_named_stays text e.definition) es)
        ∙ and_then_changed without (λ e. kind_in e.definition) (λ e. kind_in e.definition) (λ e. kind_in_stays e.definition) (find (λ e. is_type_named text e.definition) es)

    pub number_same : (text : Text) → type_number left_over text ≡ type_number es text
    number_same text = positions without (λ e. is_type_named text e.definition) (λ e. is_type_named text e.definition) (λ e. type_named_stays text e.definition) es

    schema_same : position (λ e. is_schema e.definition) left_over ≡ position (λ e. is_schema e.definition) es
    schema_same = positions without (λ e. is_schema e.definition) (λ e. is_schema e.definition) (λ e. schema_stays e.definition) es

    pub schema_number_same : schema_number left_over ≡ schema_number es
    schema_number_same = ap (λ o. unwrap_or o (length left_over)) schema_same ∙ ap (λ n. unwrap_or (position (λ e. is_schema e.definition) es) n) (length-map es without)

    directive_same : (text : Text) → directive_named left_over text ≡ directive_named es text
    directive_same text = directives_left text es

    -- what belongs to a definition
    extension_same : (number : ℕ) (text : Text) (kind : TypeKind) → owner_of_extension left_over number text kind ≡ owner_of_extension es number text kind
    extension_same number text kind =
        ap (λ k. if option_map_or (same_kind kind) k false then unwrap_or (type_number left_over text) number else number) (kind_same text)
        ∙ ap (λ o. if option_map_or (same_kind kind) (kind_named es text) false then unwrap_or o number else number) (number_same text)

    owner_same : (number : ℕ) (d : TypeSystemOf Span) → owner_of left_over number (definition_without names d) ≡ owner_of es number d
    owner_same number (schema true description directives roots place) = schema_number_same
    owner_same number (schema false description directives roots place) = refl
    owner_same number (type_definition true description name directives body place) =
        ap (λ k. owner_of_extension left_over number name.text k) (kind_stays body) ∙ extension_same number name.text (kind_of body)
    owner_same number (type_definition false description name directives body place) = refl
    owner_same number (directive_definition description name arguments repeatable locations place) = refl

    joined_same : (number : ℕ) → joined left_over number ≡ map renumbered (joined es number)
    joined_same number =
        ap (λ ns. filter (λ n. nat_eq (owner left_over n) number) ns) (numbered_without 0 es)
        ∙ kept renumbered (λ n. nat_eq (owner left_over n) number) (λ n. nat_eq (owner es n) number) (λ n. ap (λ k. nat_eq k number) (owner_same n.number n.entry.definition)) (numbered es)

    -- what is gathered of it
    gathered_of : {B : Type 0} (f : Numbered → List B) (number : ℕ) → flat_map f (joined left_over number) ≡ flat_map (λ n. f (renumbered n)) (joined es number)
    gathered_of f number = ap (λ ns. flat_map f ns) (joined_same number) ∙ flat_map-map f renumbered (joined es number)

    parts_same : {A : Type 0} (parts : BodyOf Span → List A) → PartsStay parts → (number : ℕ) → parts_of parts left_over number ≡ parts_of parts es number
    parts_same parts stay number =
        gathered_of (λ n. parts_in parts n.entry) number ∙ gathered_same (λ n. parts_in parts (without n.entry)) (λ n. parts_in parts n.entry) (λ n. part_stays parts stay n.entry) (joined es number)

    abbrev sought_in : Text → List EntryOf → ℕ → Option (FieldDefinitionOf Span)
    sought_in text vs number = option_map (λ f. f.it) (find (is_sought text) (parts_of fields_in_body vs number))

    fields_found : (text : Text) → is_one_of names text ≡ false → (number : ℕ) → sought_in text left_over number ≡ sought_in text es number
    fields_found text other number =
        ap (λ fs. option_map (λ f. f.it) (find (is_sought text) fs)) (gathered_of (λ n. parts_in fields_in_body n.entry) number)
        ∙ ap (λ o. option_map (λ f. f.it) o)
        (found_gathered (is_sought text) (λ n. parts_in fields_in_body (without n.entry)) (λ n. parts_in fields_in_body n.entry) (λ n. left_in text other n.entry) (joined es number))

    field_same : (type_name text : Text) → is_one_of names text ≡ false → field_named left_over type_name text ≡ field_named es type_name text
    field_same type_name text other =
        and_then_each (sought_in text left_over) (sought_in text es) (fields_found text other) (type_number left_over type_name)
        ∙ ap (λ o. option_and_then (sought_in text es) o) (number_same type_name)

    input_same : (type_name text : Text) → input_named left_over type_name text ≡ input_named es type_name text
    input_same type_name text =
        and_then_each (λ number. option_map (λ i. i.it) (find (λ i. bytes_eq text i.it.name.text) (parts_of inputs_in_body left_over number)))
        (λ number. option_map (λ i. i.it) (find (λ i. bytes_eq text i.it.name.text) (parts_of inputs_in_body es number)))
        (λ number. ap (λ xs. option_map (λ i. i.it) (find (λ i. bytes_eq text i.it.name.text) xs)) (parts_same inputs_in_body inputs_stay number)) (type_number left_over type_name)
        ∙ ap (λ o. option_and_then (λ number. option_map (λ i. i.it) (find (λ i. bytes_eq text i.it.name.text) (parts_of inputs_in_body es number))) o) (number_same type_name)

    -- whether a type has some part
    any_same : {A : Type 0} (parts : BodyOf Span → List A) → PartsStay parts → (q : In A → Bool) (type_name : Text) →
        option_map_or (λ number. list_any q (parts_of parts left_over number)) (type_number left_over type_name) false
        ≡ option_map_or (λ number. list_any q (parts_of parts es number)) (type_number es type_name) false
    any_same parts stay q type_name =
        map_or_each (λ number. list_any q (parts_of parts left_over number)) (λ number. list_any q (parts_of parts es number)) false
        (λ number. ap (λ xs. list_any q xs) (parts_same parts stay number)) (type_number left_over type_name)
        ∙ ap (λ o. option_map_or (λ number. list_any q (parts_of parts es number)) o false) (number_same type_name)

    -- the roots
    object_same : (text : Text) → is_object left_over text ≡ is_object es text
    object_same text = ap (λ k. option_map_or (same_kind kinds.Object) k false) (kind_same text)

    pub default_same : (kind : OperationKind) → default_root left_over kind ≡ default_root es kind
    default_same kind =
        ap (λ o. if is_some o then None else if is_object left_over (default_name kind) then Some (default_name kind) else None) schema_same
        ∙ ap (λ b. if is_some (position (λ e. is_schema e.definition) es) then None else if b then Some (default_name kind) else None) (object_same (default_name kind))

    roots_same : (number : ℕ) → roots_of left_over number ≡ roots_of es number
    roots_same number =
        gathered_of (λ n. put_in n.entry.file (roots_in n.entry.definition)) number
        ∙ gathered_same (λ n. put_in n.entry.file (roots_in (definition_without names n.entry.definition))) (λ n. put_in n.entry.file (roots_in n.entry.definition))
        (λ n. ap (λ rs. put_in n.entry.file rs) (roots_stay n.entry.definition)) (joined es number)

    entry_same : (kind : OperationKind) → entry_for left_over kind ≡ entry_for es kind
    entry_same kind =
        ap (λ rs. option_map (λ r. r.it.name.text) (find (λ r. same_kinds kind r.it.kind) rs)) (roots_same (schema_number left_over))
        ∙ ap (λ number. option_map (λ r. r.it.name.text) (find (λ r. same_kinds kind r.it.kind) (roots_of es number))) schema_number_same

    named_root_same : (kind : OperationKind) → named_root left_over kind ≡ named_root es kind
    named_root_same kind =
        ap (λ o. if is_some o then o else entry_for left_over kind) (default_same kind) ∙ ap (λ o. if is_some (default_root es kind) then default_root es kind else o) (entry_same kind)

    root_same : (kind : OperationKind) → root_of left_over kind ≡ root_of es kind
    root_same kind =
        and_then_each (λ text. if is_object left_over text then Some text else None) (λ text. if is_object es text then Some text else None)
        (λ text. ap (λ b. if b then Some text else None) (object_same text)) (named_root left_over kind)
        ∙ ap (λ o. option_and_then (λ text. if is_object es text then Some text else None) o) (named_root_same kind)

pub types_look_alike_but : TypesLookAlikeBut
types_look_alike_but names es us same =
    let alike : LooksAlike (map (without names) es) (map (without names) us) =
    types_look_alike (map (without names) es) (map (without names) us) (map-map erase_entry (without names) es ∙ same ∙ sym (map-map erase_entry (without names) us)) in
    record {
      kind = λ text. sym (kind_same names es text) ∙ alike.kind text ∙ kind_same names us text;
      field = λ type_name text other.
          ap (option_map (place_field no_place)) (sym (field_same names es type_name text other)) ∙ alike.field type_name text
          ∙ ap (option_map (place_field no_place)) (field_same names us type_name text other);
      input = λ type_name text.
          ap (option_map (place_input no_place)) (sym (input_same names es type_name text)) ∙ alike.input type_name text
          ∙ ap (option_map (place_input no_place)) (input_same names us type_name text);
      value = λ type_name text.
          sym (any_same names es values_in_body (values_stay names) (λ v. bytes_eq text v.it.name.text) type_name) ∙ alike.value type_name text
          ∙ any_same names us values_in_body (values_stay names) (λ v. bytes_eq text v.it.name.text) type_name;
      member = λ type_name text.
          sym (any_same names es members_in_body (members_stay names) (λ m. bytes_eq text m.it.text) type_name) ∙ alike.member type_name text
          ∙ any_same names us members_in_body (members_stay names) (λ m. bytes_eq text m.it.text) type_name;
      declared = λ type_name text.
          sym (any_same names es interfaces_in_body (interfaces_stay names) (λ i. bytes_eq text i.it.text) type_name) ∙ alike.declared type_name text
          ∙ any_same names us interfaces_in_body (interfaces_stay names) (λ i. bytes_eq text i.it.text) type_name;
      directive = λ text.
          ap (option_map (place_type_system no_place)) (sym (directive_same names es text)) ∙ alike.directive text ∙ ap (option_map (place_type_system no_place)) (directive_same names us text);
      root = λ kind. sym (root_same names es kind) ∙ alike.root kind ∙ root_same names us kind;
    }
