-- What is found in type systems of which the outlines are equal.
use Rattle.std.proofs.Common.{◌≡◌, ℕ, ◌+◌, true, false, List, [], ◌∷◌, Some, map, refl, ap, ◌∙◌, unwrap_or}
use Rattle.std.specs.Prelude.{position, find, nat_eq, length, if◌then◌else◌}
use Rattle.std.specs.Option.{option_map_or}
use Rattle.gq_text.specs.declared.place.Span.{Span}
use Rattle.gq_tree.specs.Plain.{BodyOf, scalar_type, object_type, interface_type, union_type, enum_type, input_type, TypeSystemOf, schema, type_definition, directive_definition, place_name, place_input, place_enum_value, place_root, place_body, place_type_system, no_place}
use Rattle.gq_types.specs.declared.entry.TypeKind.{TypeKind}
use Rattle.gq_types.specs.Entries.{Text, EntryOf, Numbered, numbered_from, numbered}
use Rattle.gq_types.specs.ErasedEntries.{erase_entry}
use Rattle.gq_types.specs.Outlines.{body_outline, definition_outline, outline}
use Rattle.gq_types.specs.Kinds.{kind_of, same_kind}
use Rattle.gq_types.specs.Joined.{is_type_named, is_schema, kind_in, type_number, kind_named, schema_number, owner_of_extension, owner_of, owner, joined, body_in, values_in_body, inputs_in_body, members_in_body, interfaces_in_body}
use Rattle.gq_types.specs.Look.{joined_numbers}
use Rattle.gq_types.specs.Roots.{roots_in}
use Rattle.gq_types.proofs.Placing.Alike.{back, seen}
use Rattle.gq_types.proofs.Placing.Lists.{lengths, found, kept, positions, and_then_alike, weaken}

abbrev pub outline_of : TypeSystemOf Span → TypeSystemOf (Unit {0})
outline_of d = definition_outline (place_type_system no_place d)

-- those that are equal but for their places have one outline
pub outlines : (es us : List EntryOf) → map erase_entry es ≡ map erase_entry us → map outline es ≡ map outline us
outlines es us same = weaken erase_entry outline (λ a b e. ap definition_outline e) es us same

-- what is seen in an outline
pub blind : {C : Type 0} (see : TypeSystemOf Span → C) → ((d : TypeSystemOf Span) → see d ≡ see (place_type_system back (outline_of d))) → (a b : EntryOf) → outline a ≡ outline b → see a.definition ≡ see b.definition
blind see each a b e = seen outline_of (place_type_system back) see each a.definition b.definition e

type_named : (text : Text) (d : TypeSystemOf Span) → is_type_named text d ≡ is_type_named text (place_type_system back (outline_of d))
type_named text (schema extends description directives roots place) = refl
type_named text (type_definition true description name directives body place) = refl
type_named text (type_definition false description name directives body place) = refl
type_named text (directive_definition description name arguments repeatable locations place) = refl

names_schema : (d : TypeSystemOf Span) → is_schema d ≡ is_schema (place_type_system back (outline_of d))
names_schema (schema extends description directives roots place) = refl
names_schema (type_definition extends description name directives body place) = refl
names_schema (directive_definition description name arguments repeatable locations place) = refl

kind_of_body : (b : BodyOf Span) → kind_of b ≡ kind_of (place_body back (body_outline (place_body no_place b)))
kind_of_body scalar_type = refl
kind_of_body (object_type interfaces fields) = refl
kind_of_body (interface_type interfaces fields) = refl
kind_of_body (union_type members) = refl
kind_of_body (enum_type values) = refl
kind_of_body (input_type fields) = refl

pub kind_seen : (d : TypeSystemOf Span) → kind_in d ≡ kind_in (place_type_system back (outline_of d))
kind_seen (schema extends description directives roots place) = refl
kind_seen (type_definition extends description name directives body place) = ap (λ z. Some z) (kind_of_body body)
kind_seen (directive_definition description name arguments repeatable locations place) = refl

-- the parts of a definition
pub body_alike : (d u : TypeSystemOf Span) → outline_of d ≡ outline_of u → body_outline (place_body no_place (body_in d)) ≡ body_outline (place_body no_place (body_in u))
body_alike (schema a b c d e) (schema a2 b2 c2 d2 e2) h = refl
body_alike (type_definition a b c d e g) (type_definition a2 b2 c2 d2 e2 g2) h = cc
body_alike (directive_definition a b c d e g) (directive_definition a2 b2 c2 d2 e2 g2) h = refl
body_alike _ _ h = absurd (cc)

pub roots_alike : (d u : TypeSystemOf Span) → outline_of d ≡ outline_of u → map (place_root no_place) (roots_in d) ≡ map (place_root no_place) (roots_in u)
roots_alike (schema a b c d e) (schema a2 b2 c2 d2 e2) h = cc
roots_alike (type_definition a b c d e g) (type_definition a2 b2 c2 d2 e2 g2) h = refl
roots_alike (directive_definition a b c d e g) (directive_definition a2 b2 c2 d2 e2 g2) h = refl
roots_alike _ _ h = absurd (cc)

-- parts of bodies of which the outlines are equal
abbrev pub PartsAlike : {A K : Type 0} → (A → K) → (BodyOf Span → List A) → Type 0
PartsAlike h parts = (b c : BodyOf Span) → body_outline (place_body no_place b) ≡ body_outline (place_body no_place c) → map h (parts b) ≡ map h (parts c)

pub interfaces_alike : PartsAlike (place_name no_place) interfaces_in_body
interfaces_alike scalar_type scalar_type e = refl
interfaces_alike (object_type i f) (object_type j g) e = cc
interfaces_alike (interface_type i f) (interface_type j g) e = cc
interfaces_alike (union_type m) (union_type n) e = refl
interfaces_alike (enum_type v) (enum_type w) e = refl
interfaces_alike (input_type f) (input_type g) e = refl
interfaces_alike _ _ e = absurd (cc)

pub members_alike : PartsAlike (place_name no_place) members_in_body
members_alike scalar_type scalar_type e = refl
members_alike (object_type i f) (object_type j g) e = refl
members_alike (interface_type i f) (interface_type j g) e = refl
members_alike (union_type m) (union_type n) e = cc
members_alike (enum_type v) (enum_type w) e = refl
members_alike (input_type f) (input_type g) e = refl
members_alike _ _ e = absurd (cc)

pub values_alike : PartsAlike (place_enum_value no_place) values_in_body
values_alike scalar_type scalar_type e = refl
values_alike (object_type i f) (object_type j g) e = refl
values_alike (interface_type i f) (interface_type j g) e = refl
values_alike (union_type m) (union_type n) e = refl
values_alike (enum_type v) (enum_type w) e = cc
values_alike (input_type f) (input_type g) e = refl
values_alike _ _ e = absurd (cc)

pub inputs_alike : PartsAlike (place_input no_place) inputs_in_body
inputs_alike scalar_type scalar_type e = refl
inputs_alike (object_type i f) (object_type j g) e = refl
inputs_alike (interface_type i f) (interface_type j g) e = refl
inputs_alike (union_type m) (union_type n) e = refl
inputs_alike (enum_type v) (enum_type w) e = refl
inputs_alike (input_type f) (input_type g) e = cc
inputs_alike _ _ e = absurd (cc)

-- with their numbers
abbrev pub outline_numbered : Numbered → ℕ × TypeSystemOf (Unit {0})
outline_numbered n = (n.number, outline n.entry)

numbered_alike : (k : ℕ) (es us : List EntryOf) → map outline es ≡ map outline us → map outline_numbered (numbered_from k es) ≡ map outline_numbered (numbered_from k us)
numbered_alike k [] [] e = refl
numbered_alike k [] (u ∷ us) e = absurd (cc)
numbered_alike k (d ∷ es) [] e = absurd (cc)
numbered_alike k (d ∷ es) (u ∷ us) e =
    let first : outline d ≡ outline u = cc in
    let rest : map outline es ≡ map outline us = cc in
    ap (λ z. (k, z) ∷ map outline_numbered (numbered_from (k + 1) es)) first ∙ ap (λ z. (k, outline u) ∷ z) (numbered_alike (k + 1) es us rest)

module _ (es us : List EntryOf) (same : map outline es ≡ map outline us) where
  pub definition_kinds : (text : Text) → kind_named es text ≡ kind_named us text
  definition_kinds text = and_then_alike outline (λ e. kind_in e.definition) (blind kind_in kind_seen) (find (λ e. is_type_named text e.definition) es) (find (λ e. is_type_named text e.definition) us)
      (found outline (λ e. is_type_named text e.definition) (λ e. is_type_named text e.definition) (blind (is_type_named text) (type_named text)) es us same)

  pub type_numbers : (text : Text) → type_number es text ≡ type_number us text
  type_numbers text = positions outline (λ e. is_type_named text e.definition) (λ e. is_type_named text e.definition) (blind (is_type_named text) (type_named text)) es us same

  pub schema_positions : position (λ e. is_schema e.definition) es ≡ position (λ e. is_schema e.definition) us
  schema_positions = positions outline (λ e. is_schema e.definition) (λ e. is_schema e.definition) (blind is_schema names_schema) es us same

  pub schema_numbers : schema_number es ≡ schema_number us
  schema_numbers = ap (λ o. unwrap_or o (length es)) schema_positions ∙ ap (λ n. unwrap_or (position (λ e. is_schema e.definition) us) n) (lengths outline es us same)

  -- what belongs to a definition
  extension : (number : ℕ) (text : Text) (kind : TypeKind) → owner_of_extension es number text kind ≡ owner_of_extension us number text kind
  extension number text kind =
      ap (λ k. if option_map_or (same_kind kind) k false then unwrap_or (type_number es text) number else number) (definition_kinds text)
      ∙ ap (λ o. if option_map_or (same_kind kind) (kind_named us text) false then unwrap_or o number else number) (type_numbers text)

  owner_alike : (number : ℕ) (d u : TypeSystemOf Span) → outline_of d ≡ outline_of u → owner_of es number d ≡ owner_of us number u
  owner_alike number (schema true b c d e) (schema true b2 c2 d2 e2) h = schema_numbers
  owner_alike number (schema false b c d e) (schema false b2 c2 d2 e2) h = refl
  owner_alike number (type_definition true a n d b p) (type_definition true a2 n2 d2 b2 p2) h =
      let names : place_name no_place n ≡ place_name no_place n2 = cc in
      let bodies : body_outline (place_body no_place b) ≡ body_outline (place_body no_place b2) = cc in
      let kind : kind_of b ≡ kind_of b2 = seen (λ z. body_outline (place_body no_place z)) (place_body back) (λ z. kind_of z) kind_of_body b b2 bodies in
      ap (λ z. owner_of_extension es number z.text (kind_of b)) names ∙ ap (λ z. owner_of_extension es number n2.text z) kind ∙ extension number n2.text (kind_of b2)
  owner_alike number (type_definition false a n d b p) (type_definition false a2 n2 d2 b2 p2) h = refl
  owner_alike number (directive_definition a b c d e g) (directive_definition a2 b2 c2 d2 e2 g2) h = refl
  owner_alike number _ _ h = absurd (cc)

  pub owners : (n m : Numbered) → outline_numbered n ≡ outline_numbered m → owner es n ≡ owner us m
  owners n m e = owner_alike n.number n.entry.definition m.entry.definition (ap (λ z. z.1) e) ∙ ap (λ k. owner_of us k m.entry.definition) (ap (λ z. z.0) e)

  pub joined_alike : (number : ℕ) → map outline_numbered (joined es number) ≡ map outline_numbered (joined us number)
  joined_alike number =
      kept outline_numbered (λ n. nat_eq (owner es n) number) (λ n. nat_eq (owner us n) number) (λ n m e. ap (λ k. nat_eq k number) (owners n m e)) (numbered es) (numbered us) (numbered_alike 0 es us same)

  pub numbers_stay : (number : ℕ) → joined_numbers es number ≡ joined_numbers us number
  numbers_stay number = weaken outline_numbered (λ n. n.number) (λ a b e. ap (λ z. z.0) e) (joined es number) (joined us number) (joined_alike number)
