-- What stands under a name in the tables is what the definitions say.
use Rattle.std.proofs.Common.{◌≡◌, ℕ, zero, suc, map, ◌+◌, ◌<◌, length, get_or, Bool, true, false, cond, List, [], ◌∷◌, ◌++◌, Option, Some, None, refl, sym, ◌∙◌, ap, arith}
use Rattle.std.specs.Option.{option_map, option_map_or, option_and_then}
use Rattle.std.specs.List.{find, position, slice_get}
use Rattle.std.specs.Prelude.{slice_index_or}
use Rattle.std.specs.Str.{bytes_eq}
use Rattle.gq_text.specs.declared.place.Span.{Span}
use Rattle.gq_tree.specs.Plain.{TypeSystemOf, schema, type_definition, directive_definition}
use Rattle.gq_types.specs.declared.entry.Entry.{Entry}
use Rattle.gq_types.specs.declared.table.Table.{Table}
use Rattle.gq_types.specs.Entries.{Text, EntryOf, entry_view, entries_view}
use Rattle.gq_types.specs.Joined.{is_type_named, is_directive_named, kind_in, type_number, kind_named, directive_number}
use Rattle.gq_types.specs.Names.{directive_named}
use Rattle.gq_types.specs.Helping.Tables.{type_key, directive_key, directive_in, at_most_one, names_in, numbers_in, AreNames}
use Rattle.gq_types.specs.Helping.UnderName.{under_name}
use Rattle.std.proofs.lemmas.List.{length-map}
use Rattle.std.proofs.lemmas.Option.{slice_get-map, slice_get_read}
use Rattle.gq_types.proofs.Searches.{position_cons, through_cons, find_through, position_agree, and_then_again}

shift : (k : ℕ) (o : Option ℕ) → option_map (λ i. k + 1 + i) o ≡ option_map (λ i. k + i) (option_map (λ i. i + 1) o)
shift k None = refl
shift k (Some i) = let e : k + 1 + i ≡ k + (i + 1) = omega arith in ap (λ n. Some n) e

from_none : (o : Option ℕ) → option_map (λ i. 0 + i) o ≡ o
from_none None = refl
from_none (Some i) = let e : 0 + i ≡ i = omega arith in ap (λ n. Some n) e

-- what is made of the items, at a place
one_of : {A B : Type 0} (f : A → Option B) (xs : List A) (i : ℕ) → slice_index_or (map f xs) i None ≡ option_and_then f (slice_get xs i)
one_of f [] i = refl
one_of f (x ∷ xs) zero = refl
one_of f (x ∷ xs) (suc i) = one_of f xs i

module _ (text : Text) where
  under_cons : {A : Type 0} (name : Text) (names : List Text) (v : A) (vs : List A) → under_name (name ∷ names) (v ∷ vs) text ≡ cond (bytes_eq text name) (Some v) (under_name names vs text)
  under_cons name names v vs =
      ap (λ o. option_and_then (λ i. slice_get (v ∷ vs) i) o) (position_cons (bytes_eq text) name names) ∙ through_cons v vs (bytes_eq text name) (position (bytes_eq text) names)

  by_test : (b : Bool) (k : ℕ) (found rest : Option ℕ) → found ≡ option_map (λ i. k + 1 + i) rest → cond b (Some k) found ≡ option_map (λ i. k + i) (cond b (Some 0) (option_map (λ i. i + 1) rest))
  by_test true k found rest h = let e : k ≡ k + 0 = omega arith in ap (λ n. Some n) e
  by_test false k found rest h = h ∙ shift k rest

  one_more : (o : Option Text) (k : ℕ) (names : List Text) (numbers : List ℕ) (rest : Option ℕ) → under_name names numbers text ≡ option_map (λ i. k + 1 + i) rest
      → under_name (at_most_one o ++ names) (at_most_one (option_map (λ name. k) o) ++ numbers) text ≡ option_map (λ i. k + i) (cond (option_map_or (bytes_eq text) o false) (Some 0) (option_map (λ i. i + 1) rest))
  one_more None k names numbers rest h = h ∙ shift k rest
  one_more (Some name) k names numbers rest h = under_cons name names k numbers ∙ by_test (bytes_eq text name) k (under_name names numbers text) rest h

  module _ (key : TypeSystemOf Span → Option Text) where
    found_from : (k : ℕ) (es : List EntryOf) → under_name (names_in key es) (numbers_in key k es) text ≡ option_map (λ i. k + i) (position (λ e. option_map_or (bytes_eq text) (key e.definition) false) es)
    found_from k [] = refl
    found_from k (e ∷ es) =
        one_more (key e.definition) k (names_in key es) (numbers_in key (k + 1) es) (position (λ e. option_map_or (bytes_eq text) (key e.definition) false) es) (found_from (k + 1) es)
        ∙ ap (λ o. option_map (λ i. k + i) o) (sym (position_cons (λ e. option_map_or (bytes_eq text) (key e.definition) false) e es))

    found : (es : List EntryOf) (t : Table ℕ) → AreNames key es t → under_name t.names t.values.items text ≡ position (λ e. option_map_or (bytes_eq text) (key e.definition) false) es
    found es t are =
        ap (λ names. under_name names t.values.items text) are.names ∙ ap (λ numbers. under_name (names_in key es) numbers text) are.numbers
        ∙ found_from 0 es ∙ from_none (position (λ e. option_map_or (bytes_eq text) (key e.definition) false) es)

  is_type : (d : TypeSystemOf Span) → option_map_or (bytes_eq text) (type_key d) false ≡ is_type_named text d
  is_type (schema extends description directives roots place) = refl
  is_type (type_definition true description name directives body place) = refl
  is_type (type_definition false description name directives body place) = refl
  is_type (directive_definition description name arguments repeatable locations place) = refl

  is_directive : (d : TypeSystemOf Span) → option_map_or (bytes_eq text) (directive_key d) false ≡ is_directive_named text d
  is_directive (schema extends description directives roots place) = refl
  is_directive (type_definition extends description name directives body place) = refl
  is_directive (directive_definition description name arguments repeatable locations place) = refl

  pub type_found : (es : List EntryOf) (t : Table ℕ) → AreNames type_key es t → under_name t.names t.values.items text ≡ type_number es text
  type_found es t are = found type_key es t are ∙ position_agree (λ e. option_map_or (bytes_eq text) (type_key e.definition) false) (λ e. is_type_named text e.definition) (λ e. is_type e.definition) es

  pub directive_found : (es : List EntryOf) (t : Table ℕ) → AreNames directive_key es t → under_name t.names t.values.items text ≡ directive_number es text
  directive_found es t are =
      found directive_key es t are ∙ position_agree (λ e. option_map_or (bytes_eq text) (directive_key e.definition) false) (λ e. is_directive_named text e.definition) (λ e. is_directive e.definition) es

  -- the kind of what stands at the number of a type
  pub kind_through : (es : List EntryOf) → kind_named es text ≡ option_and_then (λ i. option_and_then (λ e. kind_in e.definition) (slice_get es i)) (type_number es text)
  kind_through es =
      ap (λ o. option_and_then (λ e. kind_in e.definition) o) (find_through (λ e. is_type_named text e.definition) es)
      ∙ and_then_again (λ i. slice_get es i) (λ e. kind_in e.definition) (type_number es text)

  itself : (d : TypeSystemOf Span) → is_directive_named text d ≡ true → Some d ≡ directive_in d
  itself (schema extends description directives roots place) h = cc
  itself (type_definition extends description name directives body place) h = cc
  itself (directive_definition description name arguments repeatable locations place) h = refl

  first_is_directive : (b : Bool) (e : EntryOf) (rest : Option EntryOf) → is_directive_named text e.definition ≡ b → option_map (λ e. e.definition) rest ≡ option_and_then (λ e. directive_in e.definition) rest
      → option_map (λ e. e.definition) (cond b (Some e) rest) ≡ option_and_then (λ e. directive_in e.definition) (cond b (Some e) rest)
  first_is_directive true e rest is h = itself e.definition is
  first_is_directive false e rest is h = h

  found_is_directive : (es : List EntryOf) → directive_named es text ≡ option_and_then (λ e. directive_in e.definition) (find (λ e. is_directive_named text e.definition) es)
  found_is_directive [] = refl
  found_is_directive (e ∷ es) = first_is_directive (is_directive_named text e.definition) e (find (λ e. is_directive_named text e.definition) es) refl (found_is_directive es)

  -- the directive definition that stands at the number of a directive
  pub directive_through : (es : List EntryOf) → directive_named es text ≡ option_and_then (λ i. option_and_then (λ e. directive_in e.definition) (slice_get es i)) (directive_number es text)
  directive_through es =
      found_is_directive es ∙ ap (λ o. option_and_then (λ e. directive_in e.definition) o) (find_through (λ e. is_directive_named text e.definition) es)
      ∙ and_then_again (λ i. slice_get es i) (λ e. directive_in e.definition) (directive_number es text)

  pub no_kind : (es : List EntryOf) → type_number es text ≡ None → kind_named es text ≡ None
  no_kind es none = kind_through es ∙ ap (λ o. option_and_then (λ i. option_and_then (λ e. kind_in e.definition) (slice_get es i)) o) none

  pub kind_at : (es : List EntryOf) (i : ℕ) (e : EntryOf) → type_number es text ≡ Some i → slice_get es i ≡ Some e → kind_named es text ≡ kind_in e.definition
  kind_at es i e here there =
      kind_through es ∙ ap (λ o. option_and_then (λ i. option_and_then (λ e. kind_in e.definition) (slice_get es i)) o) here ∙ ap (λ o. option_and_then (λ e. kind_in e.definition) o) there

  -- the kinds of all entries, of which one is read
  pub kind_kept : (es : List EntryOf) (i : ℕ) → type_number es text ≡ Some i → kind_named es text ≡ slice_index_or (map (λ e. kind_in e.definition) es) i None
  kind_kept es i here =
      kind_through es ∙ ap (λ o. option_and_then (λ i. option_and_then (λ e. kind_in e.definition) (slice_get es i)) o) here ∙ sym (one_of (λ e. kind_in e.definition) es i)

  pub no_directive : (es : List EntryOf) → directive_number es text ≡ None → directive_named es text ≡ None
  no_directive es none = directive_through es ∙ ap (λ o. option_and_then (λ i. option_and_then (λ e. directive_in e.definition) (slice_get es i)) o) none

  pub directive_at : (es : List EntryOf) (i : ℕ) (e : EntryOf) → directive_number es text ≡ Some i → slice_get es i ≡ Some e → directive_named es text ≡ directive_in e.definition
  directive_at es i e here there =
      directive_through es ∙ ap (λ o. option_and_then (λ i. option_and_then (λ e. directive_in e.definition) (slice_get es i)) o) here ∙ ap (λ o. option_and_then (λ e. directive_in e.definition) o) there

-- an entry that the code reads
pub view_got : (entries : List Entry) (i : ℕ) (x : Entry) → i < length entries → x ≡ get_or entries i x → slice_get (entries_view entries) i ≡ Some (entry_view x)
view_got entries i x within is = slice_get-map entry_view entries i ∙ ap (λ o. option_map entry_view o) (slice_get_read entries (length entries) i x refl within is)

pub view_read : (entries : List Entry) (i : ℕ) (x : Entry) → i < length (entries_view entries) → x ≡ get_or entries i x → slice_get (entries_view entries) i ≡ Some (entry_view x)
view_read entries i x inside is = view_got entries i x (omega (arith, length-map entries entry_view)) is
