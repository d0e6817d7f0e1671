-- The rows of what types lead to by fields without null say what the relation says.
use Rattle.std.proofs.Common.{◌≡◌, ℕ, zero, suc, ◌<◌, Bool, true, false, List, [], ◌∷◌, length, get_or, refl, ap, sym, ◌∙◌, subst, arith, Contains, ◌↔◌, Vec, Global, Option, Some, None}
use Rattle.std.specs.Prelude.{slice_get, slice_index_or, nat_eq, find, option_and_then}
use Rattle.std.specs.Option.{option_map, option_map_or}
use Rattle.std.specs.Str.{bytes_eq}
use Rattle.std.specs.Cmp.Lexicographic.{bytes_decides}
use Rattle.std.proofs.lemmas.List.{length-map}
use Rattle.std.proofs.lemmas.List.Quantifiers.{position-Some}
use Rattle.gq_text.specs.declared.place.Span.{Span}
use Rattle.gq_graph.specs.Reach.{row, InRange, LeadsBack}
use Rattle.gq_tree.specs.Plain.{NameOf, TypeOf, named, list_of, non_null, InputOf, TypeSystemOf, schema, type_definition, directive_definition}
use Rattle.gq_types.specs.Entries.{Text, EntryOf, numbered}
use Rattle.gq_types.specs.Joined.{In, type_number, is_type_named, inputs_of, parts_in, inputs_in_body, body_in, joined, owner}
use Rattle.gq_types.specs.Look.{joined_numbers}
use Rattle.gq_types.specs.Names.{input_named}
use Rattle.gq_types.proofs.Gathered.{found, mapped, nothing_in as in_none, first as in_first, from_flat, to_flat, from_map, to_map, from_filter}
use Rattle.gq_type_system.specs.EndlessInputs.{LeadsByNonNull}
use Rattle.gq_type_system.specs.Helping.EndlessInputsPlaces.{required_name, one, required_number, required_named, inputs_at, type_name_in, type_name_at, required_at, required_of, required_rows, row_items, MarksNonNull}
use Rattle.gq_type_system.proofs.Gathered.{in_only}
use Rattle.gq_type_system.proofs.Ways.{Next, ways_lead_back, carried, carried_back}
use Rattle.gq_type_system.proofs.EntryRows.{row_is, in_range, rows_are, length_numbered, stands}

-- an input field of a type stands in an entry that belongs to it
pub from_inputs : (es : List EntryOf) (number : ℕ) (field : In (InputOf Span)) → Contains (inputs_of es number) field → (k : ℕ) × Contains (joined_numbers es number) k × Contains (inputs_at es k) field.it
from_inputs es number field found =
    let entry = from_flat (λ n. parts_in inputs_in_body n.entry) (joined es number) field found in
    let part = from_map (λ x. let made : In (InputOf Span) = record { file = entry.0.entry.file; it = x } in made) (inputs_in_body (body_in entry.0.entry.definition)) field entry.2 in
    let stands_there = stands es entry.0 (from_filter (λ n. nat_eq (owner es n) number) (numbered es) entry.0 entry.1).0 in (
      entry.0.number,
      to_map (λ n. n.number) (joined es number) entry.0 entry.1,
      subst (λ o. Contains (option_map_or (λ e. inputs_in_body (body_in e.definition)) o []) field.it) (sym stands_there)
          (subst (λ x. Contains (inputs_in_body (body_in entry.0.entry.definition)) x) (ap (λ (x : In (InputOf Span)). x.it) part.2) part.1),
    )

-- an input field that a name means is one of its type
pub input_of_name : (es : List EntryOf) (type_name text : Text) (input : InputOf Span) → input_named es type_name text ≡ Some input
    → (number : ℕ) × (type_number es type_name ≡ Some number) × (i : In (InputOf Span)) × Contains (inputs_of es number) i × (i.it ≡ input) × (text ≡ input.name.text)
input_of_name es type_name text input is = by (type_number es type_name) refl is
  where
    by : (o : Option ℕ) → type_number es type_name ≡ o
        → option_and_then (λ number. option_map (λ (i : In (InputOf Span)). i.it) (find (λ (i : In (InputOf Span)). bytes_eq text i.it.name.text) (inputs_of es number))) o ≡ Some input
        → (number : ℕ) × (type_number es type_name ≡ Some number) × (i : In (InputOf Span)) × Contains (inputs_of es number) i × (i.it ≡ input) × (text ≡ input.name.text)
    by None meant is = absurd (cc)
    by (Some number) meant is =
        let one = mapped (λ (i : In (InputOf Span)). i.it) (find (λ (i : In (InputOf Span)). bytes_eq text i.it.name.text) (inputs_of es number)) input is in
        let there = found (λ (i : In (InputOf Span)). bytes_eq text i.it.name.text) (inputs_of es number) one.0 one.1 in
        (number, meant, one.0, there.0, one.2, (bytes_decides text one.0.it.name.text).0 there.1 ∙ ap (λ (i : InputOf Span). i.name.text) one.2)

from_required_name : (t : TypeOf Span) (name : NameOf Span) → required_name t ≡ Some name → t ≡ non_null (named name)
from_required_name (named n) name is = absurd (cc)
from_required_name (list_of t) name is = absurd (cc)
from_required_name (non_null (named n)) name is = let same : n ≡ name = cc in ap (λ m. non_null (named m)) same
from_required_name (non_null (list_of t)) name is = absurd (cc)
from_required_name (non_null (non_null t)) name is = absurd (cc)

from_one : (o : Option ℕ) (n : ℕ) → Contains (one o) n → o ≡ Some n
from_one None n found = absurd (in_none n found)
from_one (Some m) n found = ap Some (in_only m n found)

-- what a field leads to
from_number : (es : List EntryOf) (field : InputOf Span) (n : ℕ) → Contains (required_number es field) n → (name : NameOf Span) × (field.type_ref ≡ non_null (named name)) × (type_number es name.text ≡ Some n)
from_number es field n found = by_name (required_name field.type_ref) refl found
  where
    by_name : (o : Option (NameOf Span)) → required_name field.type_ref ≡ o → Contains (one (option_and_then (λ (name : NameOf Span). type_number es name.text) o)) n
        → (name : NameOf Span) × (field.type_ref ≡ non_null (named name)) × (type_number es name.text ≡ Some n)
    by_name None is found = absurd (in_none n found)
    by_name (Some name) is found = (name, from_required_name field.type_ref name is, from_one (type_number es name.text) n found)

to_number : (es : List EntryOf) (field : InputOf Span) (n : ℕ) (name : NameOf Span) → field.type_ref ≡ non_null (named name) → type_number es name.text ≡ Some n → Contains (required_number es field) n
to_number es field n name is number =
    let has : required_name field.type_ref ≡ Some name = ap required_name is in
    subst (λ o. Contains (one (option_and_then (λ (name : NameOf Span). type_number es name.text) o)) n) (sym has)
    (subst (λ o. Contains (one o) n) (sym number) (in_first n n [] refl))

-- a number that a name has is one of an entry
pub number_below : (es : List EntryOf) (text : Text) (n : ℕ) → type_number es text ≡ Some n → n < length es
number_below [] text n is = absurd (cc)
number_below (e ∷ es) text n is = (position-Some (λ e. is_type_named text e.definition) (e ∷ es) n e is).0

name_of_type : (d : TypeSystemOf Span) (text other : Text) → is_type_named text d ≡ true → is_type_named other d ≡ true → text ≡ other
name_of_type (schema extends description directives roots place) text other is is_other = absurd (cc)
name_of_type (type_definition true description name directives body place) text other is is_other = absurd (cc)
name_of_type (type_definition false description name directives body place) text other is is_other = (bytes_decides text name.text).0 is ∙ sym ((bytes_decides other name.text).0 is_other)
name_of_type (directive_definition description name arguments repeatable locations place) text other is is_other = absurd (cc)

-- a number is had by one name
pub one_name : (es : List EntryOf) (n : ℕ) (text other : Text) → type_number es text ≡ Some n → type_number es other ≡ Some n → text ≡ other
one_name [] n text other is is_other = absurd (cc)
one_name (e ∷ es) n text other is is_other =
    name_of_type (get_or (e ∷ es) n e).definition text other
    (position-Some (λ e. is_type_named text e.definition) (e ∷ es) n e is).1
    (position-Some (λ e. is_type_named other e.definition) (e ∷ es) n e is_other).1

named_so : (d : TypeSystemOf Span) (text : Text) → is_type_named text d ≡ true → type_name_in d ≡ text
named_so (schema extends description directives roots place) text is = absurd (cc)
named_so (type_definition true description name directives body place) text is = absurd (cc)
named_so (type_definition false description name directives body place) text is = sym ((bytes_decides text name.text).0 is)
named_so (directive_definition description name arguments repeatable locations place) text is = absurd (cc)

get_is : {A : Type 0} (xs : List A) (i : ℕ) (d : A) → i < length xs → slice_get xs i ≡ Some (get_or xs i d)
get_is [] i d below = absurd (omega arith)
get_is (w ∷ xs) zero d below = refl
get_is (w ∷ xs) (suc i) d below = get_is xs i d (omega arith)

-- the entry of a name's number has the name
pub type_name_is : (es : List EntryOf) (text : Text) (number : ℕ) → type_number es text ≡ Some number → type_name_at es number ≡ text
type_name_is [] text number is = absurd (cc)
type_name_is (e ∷ es) text number is =
    let at = position-Some (λ e. is_type_named text e.definition) (e ∷ es) number e is in
    ap (λ o. option_map_or (λ e. type_name_in e.definition) o []) (get_is (e ∷ es) number e at.0) ∙ named_so (get_or (e ∷ es) number e).definition text at.1

-- what the type of a name leads to, by its input field of some name
record Required (es : List EntryOf) (type_name : Text) (n : ℕ) : Type 0 where
  text : Text
  field : InputOf Span
  name : NameOf Span
  is_field : input_named es type_name text ≡ Some field
  is_non_null : field.type_ref ≡ non_null (named name)
  is_number : type_number es name.text ≡ Some n

from_named : (es : List EntryOf) (type_name text : Text) (n : ℕ) → Contains (required_named es type_name text) n → Required es type_name n
from_named es type_name text n found = by (input_named es type_name text) refl found
  where
    by : (o : Option (InputOf Span)) → input_named es type_name text ≡ o → Contains (option_map_or (required_number es) o []) n → Required es type_name n
    by None is found = absurd (in_none n found)
    by (Some field) is found =
        let leads = from_number es field n found in
        record { text = text; field = field; name = leads.0; is_field = is; is_non_null = leads.1; is_number = leads.2 }

from_required : (es : List EntryOf) (m n : ℕ) → Contains (required_of es m) n → Required es (type_name_at es m) n
from_required es m n found =
    let entry = from_flat (required_at es (type_name_at es m)) (joined_numbers es m) n found in
    let input = from_flat (λ (i : InputOf Span). required_named es (type_name_at es m) i.name.text) (inputs_at es entry.0) n entry.2 in
    from_named es (type_name_at es m) input.0.name.text n input.2

to_required : (es : List EntryOf) (m n : ℕ) (from : Text) → type_number es from ≡ Some m → Required es from n → Contains (required_of es m) n
to_required es m n from is_from r =
    let meant = input_of_name es from r.text r.field r.is_field in
    let some : Some meant.0 ≡ Some m = sym meant.1 ∙ is_from in
    let same : meant.0 ≡ m = cc in
    let entry = from_inputs es m meant.2 (subst (λ k. Contains (inputs_of es k) meant.2) same meant.3) in
    let there = subst (λ i. Contains (inputs_at es entry.0) i) meant.4 entry.2 in
    let one : Contains (required_named es from r.text) n = subst (λ o. Contains (option_map_or (required_number es) o []) n) (sym r.is_field) (to_number es r.field n r.name r.is_non_null r.is_number) in
    let named_here = subst (λ t. Contains (required_named es from t) n) meant.5 one in
    let here = subst (λ t. Contains (required_named es t r.field.name.text) n) (sym (type_name_is es from m is_from)) named_here in
    to_flat (required_at es (type_name_at es m)) (joined_numbers es m) entry.0 n entry.1
    (to_flat (λ (i : InputOf Span). required_named es (type_name_at es m) i.name.text) (inputs_at es entry.0) r.field n there here)

module _ (es : List EntryOf) (rows : List (Vec ℕ Global)) (is : row_items rows ≡ required_rows es) where
  rows_length : length rows ≡ length es
  rows_length = sym (length-map rows (λ v. v.items)) ∙ ap length is ∙ length-map (numbered es) (λ n. required_of es n.number) ∙ length_numbered es

  row_of : (m : ℕ) → m < length es → row rows m ≡ required_of es m
  row_of m below = row_is rows m ∙ ap (λ xss. get_or xss m []) is ∙ rows_are (required_of es) es m [] below

  pub required_in_range : InRange rows
  required_in_range = in_range rows (λ m n below found.
      let required = from_required es m n (subst (λ ns. Contains ns n) (row_of m (omega (arith, rows_length))) found) in
      let inside = number_below es required.name.text n required.is_number in
      omega (arith, rows_length))

  leads_by_name : (m n : ℕ) (from : Text) → type_number es from ≡ Some m → Next (row rows) m n → (to : Text) × (type_number es to ≡ Some n) × LeadsByNonNull es from to
  leads_by_name m n from is_from found =
      let by_number = from_required es m n (subst (λ ns. Contains ns n) (row_of m (number_below es from m is_from)) found) in
      let required = subst (λ t. Required es t n) (type_name_is es from m is_from) by_number in (
        required.name.text,
        required.is_number,
        record { text = required.text; field = required.field; name = required.name; is_field = required.is_field; is_non_null = required.is_non_null; is_other = refl },
      )

  leads_by_number : (m n : ℕ) (from to : Text) → type_number es from ≡ Some m → type_number es to ≡ Some n → LeadsByNonNull es from to → Next (row rows) m n
  leads_by_number m n from to is_from is_to leads =
      subst (λ ns. Contains ns n) (sym (row_of m (number_below es from m is_from)))
      (to_required es m n from is_from record {
        text = leads.text;
        field = leads.field;
        name = leads.name;
        is_field = leads.is_field;
        is_non_null = leads.is_non_null;
        is_number = ap (type_number es) leads.is_other ∙ is_to;
      })

  has_number : (from to : Text) → LeadsByNonNull es from to → (m : ℕ) × (type_number es from ≡ Some m)
  has_number from to leads = let meant = input_of_name es from leads.text leads.field leads.is_field in (meant.0, meant.1)

  pub marks_non_null : (marks : List Bool) → ((n : ℕ) → n < length rows → (slice_index_or marks n false ≡ true) ↔ LeadsBack (row rows) n) → MarksNonNull es marks
  marks_non_null marks exact text number is_number =
      let below : number < length rows = omega (arith, number_below es text number is_number, rows_length) in
      let marked = exact number below in
      let way = ways_lead_back (row rows) number in (
        λ is_marked. carried (Next (row rows)) (LeadsByNonNull es) (λ m name. type_number es name ≡ Some m) (λ m n from. leads_by_name m n from) (λ m from to. one_name es m from to)
            number number text text (way.0 (marked.0 is_marked)) is_number is_number,
        λ leads. marked.1 (way.1 (carried_back (Next (row rows)) (LeadsByNonNull es) (λ m name. type_number es name ≡ Some m) (λ m n from to. leads_by_number m n from to) (λ from to first. has_number from to first)
            number number text text leads is_number is_number)),
      )
