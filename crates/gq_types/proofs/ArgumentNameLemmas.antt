-- The names of arguments, kept for the places where they stand.
use Rattle.std.proofs.Common.{◌≡◌, ℕ, ◌<◌, List, [], ◌∷◌, ◌++◌, Option, Some, None, length, get_or, map, refl, sym, ap, subst, ◌∙◌}
use Rattle.std.specs.Prelude.{slice_get, option_and_then, Vec}
use Rattle.std.specs.Option.{option_map}
use Rattle.std.specs.Arc.{arc_value}
use Rattle.std.proofs.lemmas.List.{length-map, map-append}
use Rattle.std.proofs.lemmas.Option.{slice_get-map, slice_get_read}
use Rattle.gq_text.specs.declared.place.Span.{Span}
use Rattle.gq_tree.specs.declared.type_system.FieldDefinition.{FieldDefinition}
use Rattle.gq_tree.specs.Plain.{InputOf, FieldDefinitionOf, TypeSystemOf, schema, type_definition, directive_definition}
use Rattle.gq_tree.specs.Views.{input_view, field_definition_view, type_system_view}
use Rattle.gq_types.specs.declared.argument_names.ArgumentNames.{ArgumentNames}
use Rattle.gq_types.specs.declared.entry.Entry.{Entry}
use Rattle.gq_types.specs.declared.parts.Place.{Place}
use Rattle.gq_types.specs.Arguments.{arguments_in, directive_arguments}
use Rattle.gq_types.specs.Entries.{Text, EntryOf, entry_view, entries_view}
use Rattle.gq_types.specs.Helping.Index.{argument_lists, arguments_at, AreNamesOfEach, AreArgumentNames}
use Rattle.gq_types.specs.Joined.{body_in, fields_in_body, is_directive_named, directive_number}
use Rattle.gq_types.specs.Names.{directive_named}
use Rattle.gq_types.specs.Helping.RequiredNames.{AreNamesOf}
use Rattle.gq_types.specs.Helping.Tables.{stands_at, lists_of}
use Rattle.gq_types.proofs.PartsLemmas.{each_push}
use Rattle.gq_types.proofs.Searches.{find_through}
use Rattle.gq_types.proofs.TableLemmas.{view_got}

-- the arguments of a field stand where it does
in_definition : (d : TypeSystemOf Span) (i : ℕ) (f : FieldDefinitionOf Span) → Some f ≡ slice_get (fields_in_body (body_in d)) i → slice_get (argument_lists d) i ≡ Some f.arguments
in_definition (schema extends description directives roots place) i f is = absurd (cc)
in_definition (type_definition extends description name directives body place) i f is =
    slice_get-map (λ f. f.arguments) (fields_in_body body) i ∙ ap (option_map (λ f. f.arguments)) (sym is)
in_definition (directive_definition description name arguments repeatable locations place) i f is = absurd (cc)

in_entry : (o : Option EntryOf) (i : ℕ) (f : FieldDefinitionOf Span) → Some f ≡ option_and_then (λ e. slice_get (fields_in_body (body_in e.definition)) i) o
    → option_and_then (λ e. slice_get (argument_lists e.definition) i) o ≡ Some f.arguments
in_entry None i f is = absurd (cc)
in_entry (Some e) i f is = in_definition e.definition i f is

pub of_field : (es : List EntryOf) (place : Place) (f : FieldDefinitionOf Span) → Some f ≡ stands_at fields_in_body es place → arguments_at es place ≡ Some f.arguments
of_field es place f is = in_entry (slice_get es place.entry) place.index f is

-- the arguments of a directive stand in its definition
defined_by : (o : Option EntryOf) (d : TypeSystemOf Span) (arguments : List (InputOf Span)) → Some d ≡ option_map (λ e. e.definition) o → argument_lists d ≡ arguments ∷ []
    → option_and_then (λ e. slice_get (argument_lists e.definition) 0) o ≡ Some arguments
defined_by None d arguments is lists = absurd (cc)
defined_by (Some e) d arguments is lists =
    let same : e.definition ≡ d = cc in
    ap (λ d. slice_get (argument_lists d) 0) same ∙ ap (λ xs. slice_get xs 0) lists

pub of_directive : (es : List EntryOf) (text : Text) (number : ℕ) (d : TypeSystemOf Span) (arguments : List (InputOf Span)) → Some number ≡ directive_number es text → Some d ≡ directive_named es text
    → argument_lists d ≡ arguments ∷ [] → arguments_at es (record { entry = number; index = 0 }) ≡ Some arguments
of_directive es text number d arguments at is lists =
    let through = find_through (λ e. is_directive_named text e.definition) es ∙ ap (option_and_then (λ i. slice_get es i)) (sym at) in
    defined_by (slice_get es number) d arguments (is ∙ ap (option_map (λ e. e.definition)) through) lists

pub no_directive : (es : List EntryOf) (text : Text) → None ≡ directive_number es text → None ≡ directive_arguments es text
no_directive es text at =
    sym (ap (λ o. option_map arguments_in (option_map (λ e. e.definition) o)) (find_through (λ e. is_directive_named text e.definition) es ∙ ap (option_and_then (λ i. slice_get es i)) (sym at)))

-- names that are kept for a place are those of the arguments there
pub names_there : (es : List EntryOf) (lists : List (List ArgumentNames)) (place : Place) (arguments : List (InputOf Span)) (names : List ArgumentNames) (n : ArgumentNames) → AreArgumentNames es lists
    → slice_get lists place.entry ≡ Some names → slice_get names place.index ≡ Some n → arguments_at es place ≡ Some arguments → AreNamesOf arguments n
names_there es lists place arguments names n are listed named there = by_entry (slice_get es place.entry) refl there
  where
    by_entry : (o : Option EntryOf) → slice_get es place.entry ≡ o → option_and_then (λ e. slice_get (argument_lists e.definition) place.index) o ≡ Some arguments → AreNamesOf arguments n
    by_entry None at is = absurd (cc)
    by_entry (Some e) at is = are place.entry names listed e at place.index n named arguments is

pub list_there : {A Z : Type 0} (vs : List (Vec A Z)) (k : ℕ) (v : Vec A Z) → k < length vs → v ≡ get_or vs k v → slice_get (lists_of vs) k ≡ Some v.items
list_there vs k v within is = slice_get-map (λ v. v.items) vs k ∙ ap (option_map (λ v. v.items)) (slice_get_read vs (length vs) k v refl within is)

-- the names for one field more
pub field_pushed : (fs : List FieldDefinition) (f : FieldDefinition) (i : ℕ) (all : List ArgumentNames) (n : ArgumentNames) → i < length fs → f ≡ get_or fs i f → length all ≡ i
    → AreNamesOfEach (map (λ f. f.arguments) (map field_definition_view fs)) all → AreNamesOf (map input_view f.arguments.items) n → AreNamesOfEach (map (λ f. f.arguments) (map field_definition_view fs)) (all ++ n ∷ [])
field_pushed fs f i all n within is count each here =
    let lists = map (λ f. f.arguments) (map field_definition_view fs) in
    let there : slice_get lists (length all) ≡ Some (map input_view f.arguments.items) =
    ap (slice_get lists) count ∙ slice_get-map (λ f. f.arguments) (map field_definition_view fs) i
    ∙ ap (option_map (λ f. f.arguments)) (slice_get-map field_definition_view fs i ∙ ap (option_map field_definition_view) (slice_get_read fs (length fs) i f refl within is)) in
    each_push (λ i n. (arguments : List (InputOf Span)) → slice_get lists i ≡ Some arguments → AreNamesOf arguments n) all n each
    (λ arguments at. let same : map input_view f.arguments.items ≡ arguments = cc in subst (λ xs. AreNamesOf xs n) same here)

pub directive_pushed : (arguments : List (InputOf Span)) (n : ArgumentNames) → AreNamesOf arguments n → AreNamesOfEach (arguments ∷ []) ([] ++ n ∷ [])
directive_pushed arguments n here =
    each_push (λ i n. (xs : List (InputOf Span)) → slice_get (arguments ∷ []) i ≡ Some xs → AreNamesOf xs n) [] n (λ i y is. absurd (cc))
    (λ xs at. let same : arguments ≡ xs = cc in subst (λ ys. AreNamesOf ys n) same here)

-- the names for one entry more
pub entry_pushed : {Z : Type 0} (entries : List Entry) (e : Entry) (i : ℕ) (all : List (Vec ArgumentNames Z)) (names : Vec ArgumentNames Z) → i < length entries → e ≡ get_or entries i e → length all ≡ i
    → AreArgumentNames (entries_view entries) (lists_of all) → AreNamesOfEach (argument_lists (type_system_view (arc_value e.definition))) names.items
    → AreArgumentNames (entries_view entries) (lists_of (all ++ names ∷ []))
entry_pushed entries e i all names within is count each here =
    let es = entries_view entries in
    let there : slice_get es (length (lists_of all)) ≡ Some (entry_view e) = ap (slice_get es) (length-map all (λ v. v.items) ∙ count) ∙ view_got entries i e within is in
    subst (AreArgumentNames es) (sym (map-append (λ v. v.items) all (names ∷ [])))
    (each_push (λ k names. (e : EntryOf) → slice_get es k ≡ Some e → AreNamesOfEach (argument_lists e.definition) names) (lists_of all) names.items each
    (λ d at. let same : entry_view e ≡ d = cc in subst (λ d. AreNamesOfEach (argument_lists d.definition) names.items) same here))
