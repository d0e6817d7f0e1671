-- Look-ups in a type system do not see the numbers of documents.
use Rattle.std.proofs.Common.{◌≡◌, ℕ, suc, ◌+◌, Bool, true, false, cond, List, [], ◌∷◌, ◌++◌, Option, Some, None, map, flat_map, length, refl, sym, ap, ◌∙◌, unwrap_or}
use Rattle.std.specs.Prelude.{◌||◌, not, filter, find, position, nat_eq, nat_lt, is_some, option_and_then, if◌then◌else◌}
use Rattle.std.specs.List.{list_any, position_or_len}
use Rattle.std.specs.Str.{bytes_eq}
use Rattle.std.specs.Option.{option_map, option_map_or}
use Rattle.gq_text.specs.declared.place.Span.{Span}
use Rattle.gq_tree.specs.declared.tree.OperationKind.{OperationKind}
use Rattle.gq_tree.specs.Plain.{BodyOf, RootOf, TypeSystemOf, schema, type_definition, directive_definition}
use Rattle.gq_tree.specs.Same.{same_kinds}
use Rattle.gq_types.specs.declared.entry.TypeKind.TheVariants as kinds
use Rattle.gq_types.specs.Entries.{Text, EntryOf, Numbered, numbered_from, numbered}
use Rattle.gq_types.specs.Kinds.{kind_of, same_kind}
use Rattle.gq_types.specs.Joined.{is_type_named, is_directive_named, is_schema, kind_in, type_number, kind_named, schema_number, owner_of, owner, joined, In, put_in, body_in, parts_of, fields_in_body, values_in_body, inputs_in_body, members_in_body, interfaces_in_body}
use Rattle.gq_types.specs.Names.{field_named, input_named, has_value, has_member, declares, directive_named}
use Rattle.gq_types.specs.Roots.{roots_in, roots_of, is_object, default_name, default_root, entry_for, named_root, root_of}
use Rattle.gq_by_file.proofs.OneFile.Options.{and_then_same, map_or_same}
use Rattle.gq_by_file.proofs.OneFile.Lookups.{SameLookups}

abbrev first_file : EntryOf → EntryOf
first_file e = record e { file = 0 }

abbrev plain : List EntryOf → List EntryOf
plain es = map first_file es

abbrev plain_numbered : Numbered → Numbered
plain_numbered n = record { number = n.number; entry = first_file n.entry }

-- options
and_then_as : {B : Type 0} (h : TypeSystemOf Span → Option B) (o : Option EntryOf) → option_and_then (λ e. h e.definition) o ≡ option_and_then h (option_map (λ e. e.definition) o)
and_then_as h None = refl
and_then_as h (Some e) = refl

-- what is found among entries
module _ (p : TypeSystemOf Span → Bool) where
  found_step : (e : EntryOf) (a c : Option EntryOf) (b : Bool) → option_map (λ e. e.definition) a ≡ option_map (λ e. e.definition) c →
      option_map (λ e. e.definition) (cond b (Some (first_file e)) a) ≡ option_map (λ e. e.definition) (cond b (Some e) c)
  found_step e a c true h = refl
  found_step e a c false h = h

  found : (es : List EntryOf) → option_map (λ e. e.definition) (find (λ e. p e.definition) (plain es)) ≡ option_map (λ e. e.definition) (find (λ e. p e.definition) es)
  found [] = refl
  found (e ∷ es) = found_step e (find (λ e. p e.definition) (plain es)) (find (λ e. p e.definition) es) (p e.definition) (found es)

  before : (es : List EntryOf) → position_or_len (λ e. p e.definition) (plain es) ≡ position_or_len (λ e. p e.definition) es
  before [] = refl
  before (e ∷ es) = ap (λ n. cond (not (p e.definition)) (1 + n) 0) (before es)

lengths : (es : List EntryOf) → length (plain es) ≡ length es
lengths [] = refl
lengths (e ∷ es) = ap suc (lengths es)

positions : (p : TypeSystemOf Span → Bool) (es : List EntryOf) → position (λ e. p e.definition) (plain es) ≡ position (λ e. p e.definition) es
positions p es =
    ap (λ a. cond (nat_lt a (length (plain es))) (Some a) None) (before p es)
    ∙ ap (λ n. cond (nat_lt (position_or_len (λ e. p e.definition) es) n) (Some (position_or_len (λ e. p e.definition) es)) None) (lengths es)

kinds_named : (es : List EntryOf) (text : Text) → kind_named (plain es) text ≡ kind_named es text
kinds_named es text =
    and_then_as kind_in (find (λ e. is_type_named text e.definition) (plain es))
    ∙ ap (λ o. option_and_then kind_in o) (found (is_type_named text) es)
    ∙ sym (and_then_as kind_in (find (λ e. is_type_named text e.definition) es))

schema_numbers : (es : List EntryOf) → schema_number (plain es) ≡ schema_number es
schema_numbers es = ap (λ o. unwrap_or o (length (plain es))) (positions is_schema es) ∙ ap (λ n. unwrap_or (position (λ e. is_schema e.definition) es) n) (lengths es)

owners : (es : List EntryOf) (number : ℕ) (d : TypeSystemOf Span) → owner_of (plain es) number d ≡ owner_of es number d
owners es number (schema true description directives roots place) = schema_numbers es
owners es number (schema false description directives roots place) = refl
owners es number (type_definition true description name directives body place) =
    ap (λ k. if option_map_or (same_kind (kind_of body)) k false then unwrap_or (type_number (plain es) name.text) number else number) (kinds_named es name.text)
    ∙ ap (λ o. if option_map_or (same_kind (kind_of body)) (kind_named es name.text) false then unwrap_or o number else number) (positions (is_type_named name.text) es)
owners es number (type_definition false description name directives body place) = refl
owners es number (directive_definition description name arguments repeatable locations place) = refl

numbers : (k : ℕ) (es : List EntryOf) → numbered_from k (plain es) ≡ map plain_numbered (numbered_from k es)
numbers k [] = refl
numbers k (e ∷ es) = ap (λ r. record { number = k; entry = first_file e } ∷ r) (numbers (k + 1) es)

-- the parts of entries
abbrev its : {A : Type 0} → List (In A) → List A
its xs = map (λ p. p.it) xs

abbrev gathered : {A : Type 0} → (TypeSystemOf Span → List A) → List Numbered → List (In A)
gathered g ns = flat_map (λ n. put_in n.entry.file (g n.entry.definition)) ns

front : {A : Type 0} (k l : ℕ) (xs : List A) (a b : List (In A)) → its a ≡ its b → its (put_in k xs ++ a) ≡ its (put_in l xs ++ b)
front k l [] a b h = h
front k l (x ∷ xs) a b h = ap (λ r. x ∷ r) (front k l xs a b h)

module _ {A : Type 0} (g : TypeSystemOf Span → List A) where
  gather_step : (n : Numbered) (a c : List Numbered) (b : Bool) → its (gathered g a) ≡ its (gathered g c) → its (gathered g (cond b (plain_numbered n ∷ a) a)) ≡ its (gathered g (cond b (n ∷ c) c))
  gather_step n a c true h = front 0 n.entry.file (g n.entry.definition) (gathered g a) (gathered g c) h
  gather_step n a c false h = h

  gather : (p q : Numbered → Bool) → ((n : Numbered) → p (plain_numbered n) ≡ q n) → (ns : List Numbered) → its (gathered g (filter p (map plain_numbered ns))) ≡ its (gathered g (filter q ns))
  gather p q h [] = refl
  gather p q h (n ∷ ns) =
      ap (λ b. its (gathered g (cond b (plain_numbered n ∷ filter p (map plain_numbered ns)) (filter p (map plain_numbered ns))))) (h n)
      ∙ gather_step n (filter p (map plain_numbered ns)) (filter q ns) (q n) (gather p q h ns)

  parts_same : (es : List EntryOf) (number : ℕ) → its (gathered g (joined (plain es) number)) ≡ its (gathered g (joined es number))
  parts_same es number =
      ap (λ ns. its (gathered g (filter (λ n. nat_eq (owner (plain es) n) number) ns))) (numbers 0 es)
      ∙ gather (λ n. nat_eq (owner (plain es) n) number) (λ n. nat_eq (owner es n) number) (λ n. ap (λ k. nat_eq k number) (owners es n.number n.entry.definition)) (numbered es)

module _ {A : Type 0} (q : A → Bool) where
  it_step : (x : In A) (a : Option (In A)) (c : Option A) (b : Bool) → option_map (λ p. p.it) a ≡ c → option_map (λ p. p.it) (cond b (Some x) a) ≡ cond b (Some x.it) c
  it_step x a c true h = refl
  it_step x a c false h = h

  found_it : (xs : List (In A)) → option_map (λ p. p.it) (find (λ p. q p.it) xs) ≡ find q (its xs)
  found_it [] = refl
  found_it (x ∷ xs) = it_step x (find (λ p. q p.it) xs) (find q (its xs)) (q x.it) (found_it xs)

  any_it : (xs : List (In A)) → list_any (λ p. q p.it) xs ≡ list_any q (its xs)
  any_it [] = refl
  any_it (x ∷ xs) = ap (λ b. q x.it || b) (any_it xs)

  found_same : (a b : List (In A)) → its a ≡ its b → option_map (λ p. p.it) (find (λ p. q p.it) a) ≡ option_map (λ p. p.it) (find (λ p. q p.it) b)
  found_same a b h = found_it a ∙ ap (find q) h ∙ sym (found_it b)

-- the look-ups, by the parts of types
module _ {A : Type 0} (parts : BodyOf Span → List A) (q : A → Bool) where
  parts_are : (es : List EntryOf) (number : ℕ) → its (parts_of parts (plain es) number) ≡ its (parts_of parts es number)
  parts_are es number = parts_same (λ d. parts (body_in d)) es number

  abbrev found_part : List EntryOf → ℕ → Option A
  found_part es number = option_map (λ p. p.it) (find (λ p. q p.it) (parts_of parts es number))

  found_parts : (es : List EntryOf) (type_name : Text) → option_and_then (found_part (plain es)) (type_number (plain es) type_name) ≡ option_and_then (found_part es) (type_number es type_name)
  found_parts es type_name =
      ap (λ o. option_and_then (found_part (plain es)) o) (positions (is_type_named type_name) es)
      ∙ and_then_same (found_part (plain es)) (found_part es) (λ number. found_same q (parts_of parts (plain es) number) (parts_of parts es number) (parts_are es number)) (type_number es type_name)

  abbrev has_part : List EntryOf → ℕ → Bool
  has_part es number = list_any (λ p. q p.it) (parts_of parts es number)

  any_parts : (es : List EntryOf) (type_name : Text) → option_map_or (has_part (plain es)) (type_number (plain es) type_name) false ≡ option_map_or (has_part es) (type_number es type_name) false
  any_parts es type_name =
      ap (λ o. option_map_or (has_part (plain es)) o false) (positions (is_type_named type_name) es)
      ∙ map_or_same (has_part (plain es)) (has_part es) false
      (λ number. any_it q (parts_of parts (plain es) number) ∙ ap (λ xs. list_any q xs) (parts_are es number) ∙ sym (any_it q (parts_of parts es number)))
      (type_number es type_name)

objects : (es : List EntryOf) (text : Text) → is_object (plain es) text ≡ is_object es text
objects es text = ap (λ k. option_map_or (same_kind kinds.Object) k false) (kinds_named es text)

default_roots : (es : List EntryOf) (kind : OperationKind) → default_root (plain es) kind ≡ default_root es kind
default_roots es kind =
    ap (λ o. if is_some o then None else if is_object (plain es) (default_name kind) then Some (default_name kind) else None) (positions is_schema es)
    ∙ ap (λ b. if is_some (position (λ e. is_schema e.definition) es) then None else if b then Some (default_name kind) else None) (objects es (default_name kind))

name_of_root : (o : Option (In (RootOf Span))) → option_map (λ r. r.it.name.text) o ≡ option_map (λ r. r.name.text) (option_map (λ r. r.it) o)
name_of_root None = refl
name_of_root (Some r) = refl

entries_for : (es : List EntryOf) (kind : OperationKind) → entry_for (plain es) kind ≡ entry_for es kind
entries_for es kind =
    ap (λ number. option_map (λ r. r.it.name.text) (find (λ r. same_kinds kind r.it.kind) (roots_of (plain es) number))) (schema_numbers es)
    ∙ name_of_root (find (λ r. same_kinds kind r.it.kind) (roots_of (plain es) (schema_number es)))
    ∙ ap (λ (o : Option (RootOf Span)). option_map (λ r. r.name.text) o) (found_same {A = RootOf Span} (λ r. same_kinds kind r.kind) (roots_of (plain es) (schema_number es)) (roots_of es (schema_number es)) (parts_same roots_in es (schema_number es)))
    ∙ sym (name_of_root (find (λ r. same_kinds kind r.it.kind) (roots_of es (schema_number es))))

named_roots : (es : List EntryOf) (kind : OperationKind) → named_root (plain es) kind ≡ named_root es kind
named_roots es kind =
    ap (λ o. if is_some o then o else entry_for (plain es) kind) (default_roots es kind)
    ∙ ap (λ o. if is_some (default_root es kind) then default_root es kind else o) (entries_for es kind)

roots : (es : List EntryOf) (kind : OperationKind) → root_of (plain es) kind ≡ root_of es kind
roots es kind =
    ap (λ o. option_and_then (λ text. if is_object (plain es) text then Some text else None) o) (named_roots es kind)
    ∙ and_then_same (λ text. if is_object (plain es) text then Some text else None) (λ text. if is_object es text then Some text else None) (λ text. ap (λ b. if b then Some text else None) (objects es text)) (named_root es kind)

plain_is : (es : List EntryOf) → plain es ≡ map (λ d. record { file = 0; definition = d }) (map (λ e. e.definition) es)
plain_is [] = refl
plain_is (e ∷ es) = ap (λ r. first_file e ∷ r) (plain_is es)

-- a look-up that does not see the numbers, in entries of the same definitions
module _ (es us : List EntryOf) (one : map (λ e. e.definition) es ≡ map (λ e. e.definition) us) where
  plain_same : plain es ≡ plain us
  plain_same = plain_is es ∙ ap (λ ds. map (λ d. record { file = 0; definition = d }) ds) one ∙ sym (plain_is us)

  alike : {X : Type 0} (look : List EntryOf → X) → ((vs : List EntryOf) → look (plain vs) ≡ look vs) → look es ≡ look us
  alike look h = sym (h es) ∙ ap look plain_same ∙ h us

  pub same_lookups : SameLookups es us
  same_lookups = record {
    kind = λ text. alike (λ vs. kind_named vs text) (λ vs. kinds_named vs text);
    field = λ type_name text. alike (λ vs. field_named vs type_name text) (λ vs. found_parts fields_in_body (λ d. bytes_eq text d.name.text) vs type_name);
    input = λ type_name text. alike (λ vs. input_named vs type_name text) (λ vs. found_parts inputs_in_body (λ d. bytes_eq text d.name.text) vs type_name);
    value = λ type_name text. alike (λ vs. has_value vs type_name text) (λ vs. any_parts values_in_body (λ d. bytes_eq text d.name.text) vs type_name);
    member = λ type_name text. alike (λ vs. has_member vs type_name text) (λ vs. any_parts members_in_body (λ d. bytes_eq text d.text) vs type_name);
    declared = λ type_name text. alike (λ vs. declares vs type_name text) (λ vs. any_parts interfaces_in_body (λ d. bytes_eq text d.text) vs type_name);
    directive = λ text. alike (λ vs. directive_named vs text) (λ vs. found (is_directive_named text) vs);
    root = λ kind. alike (λ vs. root_of vs kind) (λ vs. roots vs kind);
  }
