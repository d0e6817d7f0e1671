-- What is found in type systems that are equal but for their places.
use Rattle.std.proofs.Common.{◌≡◌, ℕ, ◌+◌, Bool, true, false, List, [], ◌∷◌, Option, Some, None, map, refl, sym, ap, ◌∙◌}
use Rattle.std.specs.Prelude.{find, position, nat_eq, is_some, option_and_then, if◌then◌else◌}
use Rattle.std.specs.List.{list_any}
use Rattle.std.specs.Option.{option_map, option_map_or}
use Rattle.gq_text.specs.declared.place.Span.{Span}
use Rattle.gq_tree.specs.declared.tree.OperationKind.{OperationKind}
use Rattle.gq_tree.specs.Plain.{RootOf, BodyOf, scalar_type, object_type, interface_type, union_type, enum_type, input_type, TypeSystemOf, schema, type_definition, directive_definition, place_name, place_input, place_field, place_enum_value, place_root, place_body, place_type_system, no_place}
use Rattle.gq_tree.specs.Same.{same_kinds}
use Rattle.gq_types.specs.declared.entry.TypeKind.TheVariants as kinds
use Rattle.gq_types.specs.Entries.{Text, EntryOf, Numbered, numbered_from, numbered}
use Rattle.gq_types.specs.ErasedEntries.{erase_entry}
use Rattle.gq_types.specs.Kinds.{kind_of, same_kind}
use Rattle.gq_types.specs.Joined.{is_type_named, is_directive_named, is_schema, kind_in, type_number, kind_named, schema_number, owner, joined, In, put_in, body_in, parts_in, parts_of, fields_in_body, values_in_body, inputs_in_body, members_in_body, interfaces_in_body}
use Rattle.gq_types.specs.Names.{directive_named}
use Rattle.gq_types.specs.Roots.{roots_in, roots_of, is_object, default_name, default_root, entry_for, named_root, root_of}
use Rattle.gq_types.specs.ErasedEntries.{erase_entry}
use Rattle.gq_types.specs.Outlines.{body_outline, definition_outline}
use Rattle.gq_types.proofs.Placing.Alike.{back, seen}
use Rattle.gq_types.proofs.Placing.Outlines as outlined
use Rattle.gq_types.proofs.Placing.Outlines.{outlines}
use Rattle.gq_types.proofs.Placing.Lists.{found, kept, any, gathered, map_twice, and_then_same, map_or_same}

-- what is seen in a definition of the type system
pub blind : {C : Type 0} (see : TypeSystemOf Span → C) → ((d : TypeSystemOf Span) → see d ≡ see (place_type_system back (place_type_system no_place d))) → (a b : EntryOf) → erase_entry a ≡ erase_entry b → see a.definition ≡ see b.definition
blind see each a b e = seen (place_type_system no_place) (place_type_system back) see each a.definition b.definition e

pub type_named_erased : (text : Text) (d : TypeSystemOf Span) → is_type_named text d ≡ is_type_named text (place_type_system back (place_type_system no_place d))
type_named_erased text (schema extends description directives roots place) = refl
type_named_erased text (type_definition true description name directives body place) = refl
type_named_erased text (type_definition false description name directives body place) = refl
type_named_erased text (directive_definition description name arguments repeatable locations place) = refl

pub directive_named_erased : (text : Text) (d : TypeSystemOf Span) → is_directive_named text d ≡ is_directive_named text (place_type_system back (place_type_system no_place d))
directive_named_erased text (schema extends description directives roots place) = refl
directive_named_erased text (type_definition extends description name directives body place) = refl
directive_named_erased text (directive_definition description name arguments repeatable locations place) = refl

pub schema_erased : (d : TypeSystemOf Span) → is_schema d ≡ is_schema (place_type_system back (place_type_system no_place d))
schema_erased (schema extends description directives roots place) = refl
schema_erased (type_definition extends description name directives body place) = refl
schema_erased (directive_definition description name arguments repeatable locations place) = refl

pub kind_erased : (b : BodyOf Span) → kind_of b ≡ kind_of (place_body back (place_body no_place b))
kind_erased scalar_type = refl
kind_erased (object_type interfaces fields) = refl
kind_erased (interface_type interfaces fields) = refl
kind_erased (union_type members) = refl
kind_erased (enum_type values) = refl
kind_erased (input_type fields) = refl

pub kind_in_erased : (d : TypeSystemOf Span) → kind_in d ≡ kind_in (place_type_system back (place_type_system no_place d))
kind_in_erased (schema extends description directives roots place) = refl
kind_in_erased (type_definition extends description name directives body place) = ap (λ z. Some z) (kind_erased body)
kind_in_erased (directive_definition description name arguments repeatable locations place) = refl

-- the parts of a definition
pub body_alike : (d u : TypeSystemOf Span) → place_type_system no_place d ≡ place_type_system no_place u → place_body no_place (body_in d) ≡ place_body no_place (body_in u)
body_alike (schema a b c d e) (schema a2 b2 c2 d2 e2) h = refl
body_alike (type_definition a b c d e g) (type_definition a2 b2 c2 d2 e2 g2) h = cc
body_alike (directive_definition a b c d e g) (directive_definition a2 b2 c2 d2 e2 g2) h = refl
body_alike _ _ h = absurd (cc)

pub roots_alike : (d u : TypeSystemOf Span) → place_type_system no_place d ≡ place_type_system no_place u → map (place_root no_place) (roots_in d) ≡ map (place_root no_place) (roots_in u)
roots_alike d u e = outlined.roots_alike d u (ap definition_outline e)

-- parts of bodies that are equal but for their places, the places of the parts forgotten
abbrev pub PartsAlike : {A K : Type 0} → (A → K) → (BodyOf Span → List A) → Type 0
PartsAlike h parts = (b c : BodyOf Span) → place_body no_place b ≡ place_body no_place c → map h (parts b) ≡ map h (parts c)

pub fields_alike : PartsAlike (place_field no_place) fields_in_body
fields_alike scalar_type scalar_type e = refl
fields_alike (object_type i f) (object_type j g) e = cc
fields_alike (interface_type i f) (interface_type j g) e = cc
fields_alike (union_type m) (union_type n) e = refl
fields_alike (enum_type v) (enum_type w) e = refl
fields_alike (input_type f) (input_type g) e = refl
fields_alike _ _ e = absurd (cc)

pub interfaces_alike : PartsAlike (place_name no_place) interfaces_in_body
interfaces_alike b c e = outlined.interfaces_alike b c (ap body_outline e)

pub members_alike : PartsAlike (place_name no_place) members_in_body
members_alike b c e = outlined.members_alike b c (ap body_outline e)

pub values_alike : PartsAlike (place_enum_value no_place) values_in_body
values_alike b c e = outlined.values_alike b c (ap body_outline e)

pub inputs_alike : PartsAlike (place_input no_place) inputs_in_body
inputs_alike b c e = outlined.inputs_alike b c (ap body_outline e)

-- the same, each with its document
pub put_erased : {A K : Type 0} (h : A → K) (file : ℕ) (xs : List A) → map (λ p. h p.it) (put_in file xs) ≡ map h xs
put_erased h file [] = refl
put_erased h file (x ∷ xs) = ap (λ z. h x ∷ z) (put_erased h file xs)

pub put_alike : {A K : Type 0} (h : A → K) (k l : ℕ) (xs ys : List A) → map h xs ≡ map h ys → map (λ p. h p.it) (put_in k xs) ≡ map (λ p. h p.it) (put_in l ys)
put_alike h k l xs ys e = put_erased h k xs ∙ e ∙ sym (put_erased h l ys)

abbrev pub erase_numbered : Numbered → ℕ × TypeSystemOf (Unit {0})
erase_numbered n = (n.number, erase_entry n.entry)

pub numbered_alike : (k : ℕ) (es us : List EntryOf) → map erase_entry es ≡ map erase_entry us → map erase_numbered (numbered_from k es) ≡ map erase_numbered (numbered_from k us)
numbered_alike k [] [] e = refl
numbered_alike k [] (u ∷ us) e = absurd (cc)
numbered_alike k (d ∷ es) [] e = absurd (cc)
numbered_alike k (d ∷ es) (u ∷ us) e =
    let first : erase_entry d ≡ erase_entry u = cc in
    let rest : map erase_entry es ≡ map erase_entry us = cc in
    ap (λ z. (k, z) ∷ map erase_numbered (numbered_from (k + 1) es)) first ∙ ap (λ z. (k, erase_entry u) ∷ z) (numbered_alike (k + 1) es us rest)

abbrev pub erase_root : In (RootOf Span) → RootOf (Unit {0})
erase_root r = place_root no_place r.it

abbrev pub root_name : RootOf (Unit {0}) → Text
root_name r = r.name.text

module _ (es us : List EntryOf) (same : map erase_entry es ≡ map erase_entry us) where
  pub definition_kinds : (text : Text) → kind_named es text ≡ kind_named us text
  definition_kinds text = outlined.definition_kinds es us (outlines es us same) text

  pub type_numbers : (text : Text) → type_number es text ≡ type_number us text
  type_numbers text = outlined.type_numbers es us (outlines es us same) text

  pub schema_positions : position (λ e. is_schema e.definition) es ≡ position (λ e. is_schema e.definition) us
  schema_positions = outlined.schema_positions es us (outlines es us same)

  pub schema_numbers : schema_number es ≡ schema_number us
  schema_numbers = outlined.schema_numbers es us (outlines es us same)

  pub directives_named : (text : Text) → option_map (place_type_system no_place) (directive_named es text) ≡ option_map (place_type_system no_place) (directive_named us text)
  directives_named text =
      map_twice (λ (e : EntryOf). e.definition) (place_type_system no_place) (find (λ e. is_directive_named text e.definition) es)
      ∙ found erase_entry (λ e. is_directive_named text e.definition) (λ e. is_directive_named text e.definition) (blind (is_directive_named text) (directive_named_erased text)) es us same
      ∙ sym (map_twice (λ (e : EntryOf). e.definition) (place_type_system no_place) (find (λ e. is_directive_named text e.definition) us))

  pub owners : (n m : Numbered) → erase_numbered n ≡ erase_numbered m → owner es n ≡ owner us m
  owners n m e = outlined.owners es us (outlines es us same) n m (ap (λ z. (z.0, definition_outline z.1)) e)

  pub joined_alike : (number : ℕ) → map erase_numbered (joined es number) ≡ map erase_numbered (joined us number)
  joined_alike number = kept erase_numbered (λ n. nat_eq (owner es n) number) (λ n. nat_eq (owner us n) number) (λ n m e. ap (λ k. nat_eq k number) (owners n m e)) (numbered es) (numbered us) (numbered_alike 0 es us same)

  module _ {A K : Type 0} (h : A → K) (parts : BodyOf Span → List A) (alike : PartsAlike h parts) (q : A → Bool) (sees : (a b : A) → h a ≡ h b → q a ≡ q b) where
    pub parts_alike : (number : ℕ) → map (λ p. h p.it) (parts_of parts es number) ≡ map (λ p. h p.it) (parts_of parts us number)
    parts_alike number = gathered erase_numbered (λ (p : In A). h p.it) (λ n. parts_in parts n.entry)
        (λ n m e. put_alike h n.entry.file m.entry.file (parts (body_in n.entry.definition)) (parts (body_in m.entry.definition)) (alike (body_in n.entry.definition) (body_in m.entry.definition) (body_alike n.entry.definition m.entry.definition (ap (λ z. z.1) e))))
        (joined es number) (joined us number) (joined_alike number)

    abbrev found_part : List EntryOf → ℕ → Option A
    found_part vs number = option_map (λ p. p.it) (find (λ p. q p.it) (parts_of parts vs number))

    pub found_parts : (type_name : Text) → option_map h (option_and_then (found_part es) (type_number es type_name)) ≡ option_map h (option_and_then (found_part us) (type_number us type_name))
    found_parts type_name =
        and_then_same h (found_part es) (found_part us)
        (λ number.
        map_twice (λ (p : In A). p.it) h (find (λ p. q p.it) (parts_of parts es number))
        ∙ found (λ (p : In A). h p.it) (λ p. q p.it) (λ p. q p.it) (λ a b e. sees a.it b.it e) (parts_of parts es number) (parts_of parts us number) (parts_alike number)
        ∙ sym (map_twice (λ (p : In A). p.it) h (find (λ p. q p.it) (parts_of parts us number))))
        (type_number es type_name)
        ∙ ap (λ o. option_map h (option_and_then (found_part us) o)) (type_numbers type_name)

    abbrev has_part : List EntryOf → ℕ → Bool
    has_part vs number = list_any (λ p. q p.it) (parts_of parts vs number)

    pub any_parts : (type_name : Text) → option_map_or (has_part es) (type_number es type_name) false ≡ option_map_or (has_part us) (type_number us type_name) false
    any_parts type_name =
        map_or_same (has_part es) (has_part us) false
        (λ number. any (λ (p : In A). h p.it) (λ p. q p.it) (λ p. q p.it) (λ a b e. sees a.it b.it e) (parts_of parts es number) (parts_of parts us number) (parts_alike number))
        (type_number es type_name)
        ∙ ap (λ o. option_map_or (has_part us) o false) (type_numbers type_name)

  -- the roots
  pub objects : (text : Text) → is_object es text ≡ is_object us text
  objects text = ap (λ k. option_map_or (same_kind kinds.Object) k false) (definition_kinds text)

  pub default_roots : (kind : OperationKind) → default_root es kind ≡ default_root us kind
  default_roots kind =
      ap (λ o. if is_some o then None else if is_object es (default_name kind) then Some (default_name kind) else None) schema_positions
      ∙ ap (λ b. if is_some (position (λ e. is_schema e.definition) us) then None else if b then Some (default_name kind) else None) (objects (default_name kind))

  pub root_parts : (number : ℕ) → map erase_root (roots_of es number) ≡ map erase_root (roots_of us number)
  root_parts number = gathered erase_numbered erase_root (λ n. put_in n.entry.file (roots_in n.entry.definition))
      (λ n m e. put_alike (place_root no_place) n.entry.file m.entry.file (roots_in n.entry.definition) (roots_in m.entry.definition) (roots_alike n.entry.definition m.entry.definition (ap (λ z. z.1) e)))
      (joined es number) (joined us number) (joined_alike number)

  pub entries_for : (kind : OperationKind) → entry_for es kind ≡ entry_for us kind
  entries_for kind =
      sym (map_twice erase_root root_name (find (λ r. same_kinds kind r.it.kind) (roots_of es (schema_number es))))
      ∙ ap (λ o. option_map root_name o) (found erase_root (λ r. same_kinds kind r.it.kind) (λ r. same_kinds kind r.it.kind) (λ a b e. ap (λ z. same_kinds kind z.kind) e) (roots_of es (schema_number es)) (roots_of us (schema_number es)) (root_parts (schema_number es)))
      ∙ map_twice erase_root root_name (find (λ r. same_kinds kind r.it.kind) (roots_of us (schema_number es)))
      ∙ ap (λ number. option_map (λ r. r.it.name.text) (find (λ r. same_kinds kind r.it.kind) (roots_of us number))) schema_numbers

  pub named_roots : (kind : OperationKind) → named_root es kind ≡ named_root us kind
  named_roots kind =
      ap (λ o. if is_some o then o else entry_for es kind) (default_roots kind)
      ∙ ap (λ o. if is_some (default_root us kind) then default_root us kind else o) (entries_for kind)

  object_only : (o : Option Text) → option_and_then (λ text. if is_object es text then Some text else None) o ≡ option_and_then (λ text. if is_object us text then Some text else None) o
  object_only None = refl
  object_only (Some text) = ap (λ b. if b then Some text else None) (objects text)

  pub roots : (kind : OperationKind) → root_of es kind ≡ root_of us kind
  roots kind = object_only (named_root es kind) ∙ ap (λ o. option_and_then (λ text. if is_object us text then Some text else None) o) (named_roots kind)
