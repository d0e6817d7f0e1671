-- Look-ups of fields and types as they are made, and as they are meant.
use Rattle.std.proofs.Common.{◌≡◌, ℕ, Bool, true, false, cond, List, [], ◌∷◌, Option, Some, None, Contains, flat_map, map, refl, sym, ap, ◌∙◌}
use Rattle.std.specs.Prelude.{find, slice_get, nat_eq, bytes_eq, option_and_then}
use Rattle.std.specs.Option.{option_map, option_map_or, option_or}
use Rattle.std.specs.List.{list_any}
use Rattle.std.proofs.lemmas.List.Folds.{find-append}
use Rattle.gq_text.specs.declared.place.Span.{Span}
use Rattle.gq_tree.specs.Plain.{FieldDefinitionOf}
use Rattle.gq_types.specs.Entries.{Text, EntryOf, Numbered, numbered}
use Rattle.gq_types.specs.BuiltIn.{is_built_in_scalar}
use Rattle.gq_types.specs.Joined.{In, put_in, owner, joined, is_type_named, type_number, body_in, parts_in, fields_in_body, fields_of}
use Rattle.gq_types.specs.Look.{joined_numbers}
use Rattle.gq_types.proofs.Gathered.{first, later, from_filter}
use Rattle.gq_types.proofs.PartLemmas.{numbered_at}
use Rattle.gq_types.proofs.Searches.{find_through}
use Rattle.gq_document.specs.Selections.{typename}
use Rattle.gq_index.specs.declared.occurrence.Occurrence.{Occurrence}
use Rattle.gq_query.specs.Helping.Gathered.{first_of, field_place_in, field_places_at}
use Rattle.gq_query.specs.Places.{field_name_place, field_place, type_name_place, type_place}

map_or : {A B : Type 0} (f : A → B) (a b : Option A) → option_map f (option_or a b) ≡ option_or (option_map f a) (option_map f b)
map_or f None b = refl
map_or f (Some x) b = refl

-- fields among those of a document
abbrev called_in : Text → In (FieldDefinitionOf Span) → Bool
called_in text f = bytes_eq text f.it.name.text

find_put : (file : ℕ) (text : Text) (fields : List (FieldDefinitionOf Span)) → option_map field_name_place (find (called_in text) (put_in file fields)) ≡ field_place_in file text fields
find_put file text [] = refl
find_put file text (f ∷ fs) = by (bytes_eq text f.name.text) (find_put file text fs)
  where
    by : (b : Bool) → option_map field_name_place (find (called_in text) (put_in file fs)) ≡ field_place_in file text fs →
        option_map field_name_place (cond b (Some (record { file = file; it = f })) (find (called_in text) (put_in file fs)))
        ≡ option_map (λ (g : FieldDefinitionOf Span). let o : Occurrence = record { file = file; span = g.name.place } in o) (cond b (Some f) (find (λ (g : FieldDefinitionOf Span). bytes_eq text g.name.text) fs))
    by true h = refl
    by false h = h

at_entry : (es : List EntryOf) (text : Text) (n : Numbered) → slice_get es n.number ≡ Some n.entry → field_places_at es text n.number ≡ option_map field_name_place (find (called_in text) (parts_in fields_in_body n.entry))
at_entry es text n at =
    ap (λ (o : Option EntryOf). option_and_then (λ e. field_place_in e.file text (option_map_or (λ d. fields_in_body (body_in d.definition)) o [])) o) at
    ∙ sym (find_put n.entry.file text (fields_in_body (body_in n.entry.definition)))

among : (es : List EntryOf) (text : Text) (ns : List Numbered) → ((n : Numbered) → Contains ns n → slice_get es n.number ≡ Some n.entry) →
    first_of (field_places_at es text) (map (λ n. n.number) ns) ≡ option_map field_name_place (find (called_in text) (flat_map (λ n. parts_in fields_in_body n.entry) ns))
among es text [] at = refl
among es text (n ∷ ns) at =
    let rest = among es text ns (λ m c. at m (later n m ns c)) in
    let here = at_entry es text n (at n (first n n ns refl)) in
    let own : List (In (FieldDefinitionOf Span)) = parts_in fields_in_body n.entry in
    let others : List (In (FieldDefinitionOf Span)) = flat_map (λ (m : Numbered). parts_in fields_in_body m.entry) ns in
    ap (λ (o : Option Occurrence). option_or o (first_of (field_places_at es text) (map (λ (m : Numbered). m.number) ns))) here
    ∙ ap (λ (o : Option Occurrence). option_or (option_map field_name_place (find (called_in text) own)) o) rest
    ∙ sym (map_or field_name_place (find (called_in text) own) (find (called_in text) others))
    ∙ ap (option_map field_name_place) (sym (find-append (called_in text) own others))

-- in a type with its extensions
pub field_among : (es : List EntryOf) (text : Text) (number : ℕ) → first_of (field_places_at es text) (joined_numbers es number) ≡ option_map field_name_place (find (λ f. bytes_eq text f.it.name.text) (fields_of es number))
field_among es text number = among es text (joined es number) (λ n c. numbered_at es n (from_filter (λ (m : Numbered). nat_eq (owner es m) number) (numbered es) n c).0)

-- the first definition of a type
pub type_found : (es : List EntryOf) (text : Text) → find (λ e. is_type_named text e.definition) es ≡ option_and_then (λ k. slice_get es k) (type_number es text)
type_found es text = find_through (λ (e : EntryOf). is_type_named text e.definition) es

-- a field that is not `__typename`, of a type with a number
pub field_place_found : (es : List EntryOf) (type_name text : Text) (number : ℕ) → bytes_eq text typename ≡ false → type_number es type_name ≡ Some number → field_place es type_name text ≡ first_of (field_places_at es text) (joined_numbers es number)
field_place_found es type_name text number other is =
    let F : ℕ → Option Occurrence = λ k. option_map field_name_place (find (λ f. bytes_eq text f.it.name.text) (fields_of es k)) in
    ap (λ (b : Bool). cond b None (option_and_then F (type_number es type_name))) other ∙ ap (λ (o : Option ℕ). option_and_then F o) is ∙ sym (field_among es text number)

pub field_place_none : (es : List EntryOf) (type_name text : Text) → bytes_eq text typename ≡ false → type_number es type_name ≡ None → field_place es type_name text ≡ None
field_place_none es type_name text other is =
    let F : ℕ → Option Occurrence = λ k. option_map field_name_place (find (λ f. bytes_eq text f.it.name.text) (fields_of es k)) in
    ap (λ (b : Bool). cond b None (option_and_then F (type_number es type_name))) other ∙ ap (λ (o : Option ℕ). option_and_then F o) is

-- a type that is not built in
abbrev named_at : EntryOf → Option Occurrence
named_at e = type_name_place e.file e.definition

pub type_place_is : (es : List EntryOf) (text : Text) (number : Option ℕ) → is_built_in_scalar text ≡ false → type_number es text ≡ number → type_place es text ≡ option_and_then named_at (option_and_then (λ k. slice_get es k) number)
type_place_is es text number other is =
    ap (λ (b : Bool). cond b None (option_and_then named_at (find (λ e. is_type_named text e.definition) es))) other
    ∙ ap (λ (o : Option EntryOf). option_and_then named_at o) (type_found es text)
    ∙ ap (λ (o : Option ℕ). option_and_then named_at (option_and_then (λ k. slice_get es k) o)) is
