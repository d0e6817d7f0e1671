-- The rules of type systems that are equal but for their places and for fields of some object types, elsewhere than at these.
use Rattle.std.proofs.Common.{◌≡◌, ℕ, ◌<◌, ◌≤◌, true, false, List, [], ◌∷◌, ◌++◌, Option, Some, None, map, flat_map, length, refl, sym, ap, ◌∙◌, subst, Contains, ◌⊎◌, inl, inr, ⊎_elim}
use Rattle.std.specs.Prelude.{find, nat_eq, not, All, slice_get, option_and_then, get_or}
use Rattle.std.specs.List.{list_any}
use Rattle.std.specs.Option.{option_map}
use Rattle.std.specs.Str.{bytes_eq}
use Rattle.std.proofs.lemmas.List.{get_or_default}
use Rattle.std.proofs.lemmas.List.Elements.{Contains-append_right}
use Rattle.std.proofs.lemmas.List.Quantifiers.{position-Some}
use Rattle.std.proofs.lemmas.Option.{slice_get-get_or}
use Rattle.gq_text.specs.declared.place.Span.{Span}
use Rattle.gq_fault.specs.declared.fault.Fault.{Fault}
use Rattle.gq_names.specs.Repeats.{StandsAt, IsRepeated}
use Rattle.gq_tree.specs.declared.tree.OperationKind.{OperationKind}
use Rattle.gq_tree.specs.declared.tree.OperationKind.TheVariants.{Query}
use Rattle.gq_tree.specs.Plain.{FieldDefinitionOf, RootOf, BodyOf, scalar_type, object_type, interface_type, union_type, enum_type, input_type, TypeSystemOf, schema, type_definition, directive_definition, place_type_system, no_place}
use Rattle.gq_types.specs.declared.entry.TypeKind.TheVariants as kinds
use Rattle.gq_types.specs.BuiltIn.{defines_built_in}
use Rattle.gq_types.specs.Entries.{Text, EntryOf, Numbered, numbered}
use Rattle.gq_types.specs.Joined.{In, is_type_named, kind_in, kind_named, type_number, schema_number, owner, joined, judged, parts_in, parts_of, fields_in_body, interfaces_in_body, fields_of}
use Rattle.gq_types.specs.LookUps.{field_in, declares_in}
use Rattle.gq_types.specs.Names.{field_named}
use Rattle.gq_types.specs.Roots.{roots_of, default_root}
use Rattle.gq_types.proofs.Gathered.{first, from_filter, to_filter}
use Rattle.gq_types.proofs.Searches.{find_through}
use Rattle.gq_types.proofs.Placing.Alike.{back, seen}
use Rattle.gq_types.proofs.Placing.Lists.{lengths}
use Rattle.gq_values.specs.Literals.{default_at}
use Rattle.gq_type_system.specs.DefinedTwice.{defined_by, IsDefinedTwice}
use Rattle.gq_type_system.specs.BadExtension.{IsBadExtension}
use Rattle.gq_type_system.specs.ReservedName.{IsReservedName}
use Rattle.gq_type_system.specs.UnknownType.{IsUnknownType}
use Rattle.gq_type_system.specs.WrongKind.{IsWrongKind}
use Rattle.gq_type_system.specs.Parts.{names_of_part}
use Rattle.gq_type_system.specs.EmptyOrRepeated.{IsEmptyType, IsRepeatedPart, IsRepeatedArgument}
use Rattle.gq_type_system.specs.RootTypes.{HasRoot, has_default, has_entry, IsFirstRoot, IsRoot, is_default, is_entry, IsRepeatedRoot, IsNoObject, IsSharedRoot}
use Rattle.gq_type_system.specs.QueryRoot.{HasNoQueryRoot}
use Rattle.gq_type_system.specs.EndlessInputs.{input_object_in, IsEndlessInput}
use Rattle.gq_type_system.specs.Implementations.{Implements, Inherits, BreaksImplementation, declares_itself, lacks_interface, lacks_field, breaks_field, IsBadImplementation}
use Rattle.gq_type_system.specs.DirectivesAndDefaults.{IsBadDirectiveOrDefault, in_site, in_entry, in_default}
use Rattle.gq_type_system.specs.SchemaFaults.{IsSchemaFault}
use Rattle.gq_type_system.specs.SchemaFaults as rule
use Rattle.gq_type_system.specs.FaultsAt.{directive_found_at, found_at, IsFaultlessAt}
use Rattle.gq_type_system.proofs.NumberLemmas.{numbered_there}
use Rattle.gq_laws.specs.Placing.ObjectTypes.{defines_object, OtherObjectsKeepTypes}
use Rattle.gq_laws.specs.Placing.OtherFields.{definition_without, erase_without}
use Rattle.gq_laws.proofs.Placing.Literals.{erase_expected}
use Rattle.gq_laws.proofs.Placing.Lookups.{defaults, literal, directive}
use Rattle.gq_laws.proofs.Placing.TypeNamesAlike.{defined_erased}
use Rattle.gq_laws.proofs.Placing.TypeGraphsAlike.{breaks_field_too, endless_too}
use Rattle.gq_laws.proofs.Placing.TypeRules.{documents_of_types_do_not_matter_to_types}
use Rattle.gq_laws.proofs.Placing.ObjectTypes.{Mixed, between, is_mixed, is_old, is_new, joined_mixed, roots_mixed, found_too, object_at, is_among, looks, numbers_are, schemas_are, defaults_are, owners_are, like}

-- what fields have no part in
defined_stays : (names : List Text) (d : TypeSystemOf Span) → defined_by (definition_without names d) ≡ defined_by d
defined_stays names (schema true description directives roots place) = refl
defined_stays names (schema false description directives roots place) = refl
defined_stays names (type_definition true description name directives body place) = refl
defined_stays names (type_definition false description name directives body place) = refl
defined_stays names (directive_definition description name arguments repeatable locations place) = refl

defined_like : (names : List Text) (e u : EntryOf) → erase_without names e ≡ erase_without names u → defined_by e.definition ≡ defined_by u.definition
defined_like names e u same =
    sym (defined_stays names e.definition)
    ∙ seen (place_type_system no_place) (place_type_system back) defined_by defined_erased (definition_without names e.definition) (definition_without names u.definition) same
    ∙ defined_stays names u.definition

-- the definition of an object type: its kind, and that it is no input object
object_kind : (d : TypeSystemOf Span) → defines_object d ≡ true → kind_in d ≡ Some kinds.Object
object_kind (schema extends description directives roots place) o = absurd (cc)
object_kind (type_definition true description name directives body place) o = absurd (cc)
object_kind (type_definition false description name directives scalar_type place) o = absurd (cc)
object_kind (type_definition false description name directives (object_type interfaces fields) place) o = refl
object_kind (type_definition false description name directives (interface_type interfaces fields) place) o = absurd (cc)
object_kind (type_definition false description name directives (union_type members) place) o = absurd (cc)
object_kind (type_definition false description name directives (enum_type values) place) o = absurd (cc)
object_kind (type_definition false description name directives (input_type fields) place) o = absurd (cc)
object_kind (directive_definition description name arguments repeatable locations place) o = absurd (cc)

no_input : (d : TypeSystemOf Span) → defines_object d ≡ true → input_object_in d ≡ None
no_input (schema extends description directives roots place) o = absurd (cc)
no_input (type_definition true description name directives body place) o = absurd (cc)
no_input (type_definition false description name directives scalar_type place) o = absurd (cc)
no_input (type_definition false description name directives (object_type interfaces fields) place) o = refl
no_input (type_definition false description name directives (interface_type interfaces fields) place) o = absurd (cc)
no_input (type_definition false description name directives (union_type members) place) o = absurd (cc)
no_input (type_definition false description name directives (enum_type values) place) o = absurd (cc)
no_input (type_definition false description name directives (input_type fields) place) o = absurd (cc)
no_input (directive_definition description name arguments repeatable locations place) o = absurd (cc)

-- the roots of two type systems with the same default roots, where the same entries are listed
module _ (es us : List EntryOf) (defaults_same : (operation : OperationKind) → default_root es operation ≡ default_root us operation) (rs : List (In (RootOf Span))) where
  has_root_too : (place : ℕ) (operation : OperationKind) → HasRoot es rs place operation → HasRoot us rs place operation
  has_root_too place operation (has_default is) = has_default (sym (defaults_same operation) ∙ is)
  has_root_too place operation (has_entry stands before kind) = has_entry stands before kind

module _ (es us : List EntryOf) (defaults_same : (operation : OperationKind) → default_root es operation ≡ default_root us operation) (rs : List (In (RootOf Span))) where
  first_root_too : (place : ℕ) (root : In (RootOf Span)) → IsFirstRoot es rs place root → IsFirstRoot us rs place root
  first_root_too place root h = record {
    stands = h.stands;
    is_first = λ r. h.is_first (has_root_too us es (λ operation. sym (defaults_same operation)) rs place root.it.kind r);
  }

  is_root_too : (place : ℕ) (text : Text) → IsRoot es rs place text → IsRoot us rs place text
  is_root_too place text (is_default operation is) = is_default operation (sym (defaults_same operation) ∙ is)
  is_root_too place text (is_entry {earlier} {other} c before name) = is_entry (first_root_too earlier other c) before name

module _ (names : List Text) (us hs : List EntryOf) (ns : List ℕ) (mixed : Mixed 0 us hs ns) (alike : map (erase_without names) us ≡ map (erase_without names) hs) where
  -- a number at which no object type differs
  abbrev Unmarked : ℕ → Type 0
  Unmarked n = Contains ns n → ⊥

  there_too : (n : Numbered) → Contains (numbered us) n → Unmarked n.number → Contains (numbered hs) n
  there_too n c free = ⊎_elim (λ z. z) (λ z. absurd (free z.0)) (found_too mixed n c)

  judged_too : (n : Numbered) → Contains (judged us) n → Unmarked n.number → Contains (judged hs) n
  judged_too n c free =
      let p = from_filter (λ n. not (defines_built_in n.entry.definition)) (numbered us) n c in
      to_filter (λ n. not (defines_built_in n.entry.definition)) (numbered hs) n (there_too n p.0 free) p.1

  joined_are : (number : ℕ) → Unmarked number → joined us number ≡ joined hs number
  joined_are number free = joined_mixed us hs (owners_are names us hs alike) number mixed free

  roots_are : (number : ℕ) → roots_of us number ≡ roots_of hs number
  roots_are number = roots_mixed us hs (owners_are names us hs alike) number mixed

  parts_are : {A : Type 0} (parts : BodyOf Span → List A) (number : ℕ) → Unmarked number → parts_of parts us number ≡ parts_of parts hs number
  parts_are parts number free = ap (λ ms. flat_map (λ m. parts_in parts m.entry) ms) (joined_are number free)

  as_many : length us ≡ length hs
  as_many = lengths (erase_without names) us hs alike

  kinds_are : (text : Text) → kind_named us text ≡ kind_named hs text
  kinds_are text = (looks names us hs alike).kind text

  -- names
  defined_twice_too : (f : Fault) (h : IsDefinedTwice us f) → Unmarked h.entry.number → IsDefinedTwice hs f
  defined_twice_too f h free =
      let m = like names us hs alike h.earlier h.stands in
      record {
        entry = h.entry;
        is_judged = judged_too h.entry h.is_judged free;
        what = h.what;
        defines = h.defines;
        earlier = m.0;
        stands = m.1;
        is_earlier = subst (λ k. k < h.entry.number) m.2 h.is_earlier;
        defines_the_same = sym (defined_like names h.earlier.entry m.0.entry m.3) ∙ h.defines_the_same;
        is = h.is;
      }

  bad_extension_too : (f : Fault) (h : IsBadExtension us f) → Unmarked h.entry.number → IsBadExtension hs f
  bad_extension_too f h free = record {
    entry = h.entry;
    is_judged = judged_too h.entry h.is_judged free;
    description = h.description;
    name = h.name;
    directives = h.directives;
    body = h.body;
    place = h.place;
    extends = h.extends;
    is_not_of_that_kind = λ e. h.is_not_of_that_kind (kinds_are h.name.text ∙ e);
    is = h.is;
  }

  reserved_name_too : (f : Fault) (h : IsReservedName us f) → Unmarked h.entry.number → IsReservedName hs f
  reserved_name_too f h free = record {
    entry = h.entry;
    is_judged = judged_too h.entry h.is_judged free;
    name = h.name;
    is_defined = h.is_defined;
    rest = h.rest;
    is_reserved = h.is_reserved;
    is = h.is;
  }

  unknown_type_too : (f : Fault) (h : IsUnknownType us f) → Unmarked h.entry.number → IsUnknownType hs f
  unknown_type_too f h free = record {
    entry = h.entry;
    is_judged = judged_too h.entry h.is_judged free;
    one = h.one;
    is_used = h.is_used;
    is_unknown = sym (kinds_are h.one.name.text) ∙ h.is_unknown;
    is = h.is;
  }

  wrong_kind_too : (f : Fault) (h : IsWrongKind us f) → Unmarked h.entry.number → IsWrongKind hs f
  wrong_kind_too f h free = record {
    entry = h.entry;
    is_judged = judged_too h.entry h.is_judged free;
    one = h.one;
    is_used = h.is_used;
    of_kind = h.of_kind;
    is_known = sym (kinds_are h.one.name.text) ∙ h.is_known;
    is_wrong = h.is_wrong;
    is = h.is;
  }

  -- parts
  empty_type_too : (f : Fault) (h : IsEmptyType us f) → Unmarked h.entry.number → IsEmptyType hs f
  empty_type_too f h free = record {
    entry = h.entry;
    is_judged = judged_too h.entry h.is_judged free;
    description = h.description;
    name = h.name;
    directives = h.directives;
    body = h.body;
    place = h.place;
    defines = h.defines;
    part = h.part;
    is_required = h.is_required;
    is_empty = sym (parts_are (names_of_part h.part) h.entry.number free) ∙ h.is_empty;
    is = h.is;
  }

  repeated_part_too : (f : Fault) (h : IsRepeatedPart us f) → Unmarked h.number → IsRepeatedPart hs f
  repeated_part_too f h free = record {
    number = h.number;
    is_number = subst (λ n. h.number < n) as_many h.is_number;
    part = h.part;
    one = h.one;
    is_repeated = subst (λ xs. IsRepeated (λ name. name.it.text) xs h.one) (parts_are (names_of_part h.part) h.number free) h.is_repeated;
    is = h.is;
  }

  repeated_argument_too : (f : Fault) (h : IsRepeatedArgument us f) → Unmarked h.entry.number → IsRepeatedArgument hs f
  repeated_argument_too f h free = record {
    entry = h.entry;
    is_judged = judged_too h.entry h.is_judged free;
    arguments = h.arguments;
    has = h.has;
    one = h.one;
    is_repeated = h.is_repeated;
    is = h.is;
  }

  -- roots
  defaults_stay : (operation : OperationKind) → default_root us operation ≡ default_root hs operation
  defaults_stay operation = defaults_are names us hs alike operation

  first_root_there : (number place : ℕ) (root : In (RootOf Span)) → IsFirstRoot us (roots_of us number) place root → IsFirstRoot hs (roots_of hs number) place root
  first_root_there number place root h = subst (λ rs. IsFirstRoot hs rs place root) (roots_are number) (first_root_too us hs defaults_stay (roots_of us number) place root h)

  repeated_root_too : (f : Fault) → IsRepeatedRoot us f → IsRepeatedRoot hs f
  repeated_root_too f h = record {
    number = h.number;
    is_number = subst (λ n. h.number ≤ n) as_many h.is_number;
    place = h.place;
    root = h.root;
    stands = subst (λ rs. StandsAt rs h.place h.root) (roots_are h.number) h.stands;
    has_root = subst (λ rs. HasRoot hs rs h.place h.root.it.kind) (roots_are h.number) (has_root_too us hs defaults_stay (roots_of us h.number) h.place h.root.it.kind h.has_root);
    is = h.is;
  }

  no_object_too : (f : Fault) → IsNoObject us f → IsNoObject hs f
  no_object_too f h = record {
    number = h.number;
    is_number = subst (λ n. h.number ≤ n) as_many h.is_number;
    place = h.place;
    root = h.root;
    counts = first_root_there h.number h.place h.root h.counts;
    of_kind = h.of_kind;
    is_known = sym (kinds_are h.root.it.name.text) ∙ h.is_known;
    is_no_object = h.is_no_object;
    is = h.is;
  }

  shared_root_too : (f : Fault) → IsSharedRoot us f → IsSharedRoot hs f
  shared_root_too f h = record {
    number = h.number;
    is_number = subst (λ n. h.number ≤ n) as_many h.is_number;
    place = h.place;
    root = h.root;
    counts = first_root_there h.number h.place h.root h.counts;
    of_kind = h.of_kind;
    is_known = sym (kinds_are h.root.it.name.text) ∙ h.is_known;
    is_shared = subst (λ rs. IsRoot hs rs h.place h.root.it.name.text) (roots_are h.number) (is_root_too us hs defaults_stay (roots_of us h.number) h.place h.root.it.name.text h.is_shared);
    is = h.is;
  }

  no_query_root_too : (f : Fault) → HasNoQueryRoot us f → HasNoQueryRoot hs f
  no_query_root_too f h =
      let roots : roots_of us (schema_number us) ≡ roots_of hs (schema_number hs) = roots_are (schema_number us) ∙ ap (λ n. roots_of hs n) (schemas_are names us hs alike) in
      record {
        no_default = sym (defaults_stay Query) ∙ h.no_default;
        no_entry = λ root c. h.no_entry root (subst (λ rs. Contains rs root) (sym roots) c);
        is = h.is;
      }

  -- The fields of an interface: no object type is one.
  abbrev sought : List EntryOf → Text → ℕ → Option (FieldDefinitionOf Span)
  sought es text number = option_map (λ f. f.it) (find (λ f. bytes_eq text f.it.name.text) (fields_of es number))

  fields_are : (number : ℕ) → Unmarked number → (text : Text) → field_in us number text ≡ field_in hs number text
  fields_are number free text = ap (λ fs. option_map (λ f. f.it) (find (λ f. bytes_eq text f.it.name.text) fs)) (parts_are fields_in_body number free)

  no_entry_yet : EntryOf
  no_entry_yet = record { file = 0; definition = schema false None [] [] (back tt) }

  interface_is_unmarked : (text : Text) (k : ℕ) → type_number us text ≡ Some k → kind_named us text ≡ Some kinds.Interface → Unmarked k
  interface_is_unmarked text k number kind c =
      let found = position-Some (λ e. is_type_named text e.definition) us k no_entry_yet number in
      let it = get_or us k no_entry_yet in
      let there : Contains (numbered us) (record { number = k; entry = it }) = numbered_there us k it (found.0, get_or_default us k it no_entry_yet found.0) in
      let found_is : find (λ e. is_type_named text e.definition) us ≡ Some it =
      find_through (λ e. is_type_named text e.definition) us ∙ ap (λ o. option_and_then (λ i. slice_get us i) o) number ∙ slice_get-get_or us k no_entry_yet found.0 in
      let its_kind : kind_in it.definition ≡ Some kinds.Interface = sym (ap (λ o. option_and_then (λ e. kind_in e.definition) o) found_is) ∙ kind in
      let object : kind_in it.definition ≡ Some kinds.Object = object_kind it.definition (object_at mixed (record { number = k; entry = it }) there c) in
      absurd (cc)

  interface_fields : (o : Option ℕ) (name text : Text) → type_number us name ≡ o → kind_named us name ≡ Some kinds.Interface → option_and_then (sought us text) o ≡ option_and_then (sought hs text) o
  interface_fields None name text number kind = refl
  interface_fields (Some k) name text number kind = fields_are k (interface_is_unmarked name k number kind) text

  field_named_too : (name text : Text) → kind_named us name ≡ Some kinds.Interface → field_named us name text ≡ field_named hs name text
  field_named_too name text kind =
      interface_fields (type_number us name) name text refl kind ∙ ap (λ o. option_and_then (sought hs text) o) (numbers_are names us hs alike name)

  -- implementations
  declares_are : (number : ℕ) → Unmarked number → (text : Text) → declares_in us number text ≡ declares_in hs number text
  declares_are number free text = ap (λ is. list_any (λ i. bytes_eq text i.it.text) is) (parts_are interfaces_in_body number free)

  implements_too : (number : ℕ) → Unmarked number → (text : Text) → Implements us number text → Implements hs number text
  implements_too number free text i = (sym (declares_are number free text) ∙ i.0, sym (kinds_are text) ∙ i.1)

  inherits_too : (number : ℕ) → Unmarked number → (text : Text) (field : FieldDefinitionOf Span) → Inherits us number text field → Inherits hs number text field
  inherits_too number free text field i = record {
    interface = i.interface;
    implements = implements_too number free i.interface i.implements;
    has = sym (field_named_too i.interface text i.implements.1) ∙ i.has;
  }

  breaks_too : (number : ℕ) → Unmarked number → (name : Text) → BreaksImplementation us number name → BreaksImplementation hs number name
  breaks_too number free name (declares_itself a) = declares_itself (sym (declares_are number free name) ∙ a)
  breaks_too number free name (lacks_interface wanted further a b c d) =
      lacks_interface wanted further (implements_too number free wanted a) (sym ((looks names us hs alike).declared wanted further) ∙ b) (sym (kinds_are further) ∙ c)
      (sym (declares_are number free further) ∙ d)
  breaks_too number free name (lacks_field text wanted a b) = lacks_field text wanted (inherits_too number free text wanted a) (sym (fields_are number free text) ∙ b)
  breaks_too number free name (breaks_field text wanted own a b c) =
      breaks_field text wanted own (inherits_too number free text wanted a) (sym (fields_are number free text) ∙ b)
      (breaks_field_too names us hs (looks names us hs alike) wanted own wanted own refl refl c)

  bad_implementation_too : (f : Fault) (h : IsBadImplementation us f) → Unmarked h.at.number → IsBadImplementation hs f
  bad_implementation_too f h free = record {
    at = h.at;
    is_judged = judged_too h.at h.is_judged free;
    description = h.description;
    name = h.name;
    directives = h.directives;
    body = h.body;
    place = h.place;
    defines = h.defines;
    implements = h.implements;
    breaks = breaks_too h.at.number free h.name.text h.breaks;
    is = h.is;
  }

  -- input objects that are endless: no object type is one
  input_too : (n : Numbered) → Contains (judged us) n → (defines_object n.entry.definition ≡ true → ⊥) → Contains (judged hs) n
  input_too n c another =
      let p = from_filter (λ n. not (defines_built_in n.entry.definition)) (numbered us) n c in
      to_filter (λ n. not (defines_built_in n.entry.definition)) (numbered hs) n (⊎_elim (λ z. z) (λ z. absurd (another z.1)) (found_too mixed n p.0)) p.1

  endless_input_too : (f : Fault) → IsEndlessInput us f → IsEndlessInput hs f
  endless_input_too f h =
      let another : defines_object h.entry.entry.definition ≡ true → ⊥ =
      λ o. (let none : input_object_in h.entry.entry.definition ≡ None = no_input h.entry.entry.definition o in
      let some : input_object_in h.entry.entry.definition ≡ Some h.name = h.defines in
      absurd (cc)) in
      record {
        entry = h.entry;
        is_judged = input_too h.entry h.is_judged another;
        name = h.name;
        defines = h.defines;
        is_meant = sym (numbers_are names us hs alike h.name.text) ∙ h.is_meant;
        is_endless = endless_too names us hs (looks names us hs alike) h.name.text h.is_endless;
        is = h.is;
      }

  -- directives and default values
  among_joined : (before : List Numbered) (n : Numbered) (after : List Numbered) → joined hs (owner hs n) ≡ before ++ n ∷ after → Contains (numbered hs) n
  among_joined before n after are =
      (from_filter (λ m. nat_eq (owner hs m) (owner hs n)) (numbered hs) n
      (subst (λ z. Contains z n) (sym are) (Contains-append_right before (n ∷ after) n (first n n after refl)))).0

  bad_directive_or_default_too : (f : Fault) (h : IsBadDirectiveOrDefault us f) → Unmarked (directive_found_at h) → IsBadDirectiveOrDefault hs f
  bad_directive_or_default_too f (in_site {n = n} {site = site} {fault = fault} c s h is) free =
      in_site {n = n} {site = site} {fault = fault} (judged_too n c free) s (directive names us hs (looks names us hs alike) h) is
  bad_directive_or_default_too f (in_entry before n after {site = site} {fault = fault} c are own h is) free =
      let there : joined hs (owner hs n) ≡ before ++ n ∷ after = ap (joined hs) (sym (owners_are names us hs alike n.number n.entry.definition)) ∙ sym (joined_are (owner us n) free) ∙ are in
      let passes = from_filter (λ n. not (defines_built_in n.entry.definition)) (numbered us) n c in
      let is_judged = to_filter (λ n. not (defines_built_in n.entry.definition)) (numbered hs) n (among_joined before n after there) passes.1 in
      in_entry before n after {site = site} {fault = fault} is_judged there own (directive names us hs (looks names us hs alike) h) is
  bad_directive_or_default_too f (in_default {n = n} {input = input} {default = default} {fault = fault} c s d h is) free =
      in_default {n = n} {input = input} {default = default} {fault = fault} (judged_too n c free) s d
      (literal names us hs (looks names us hs alike) (default_at hs input.type_ref) (ap erase_expected (defaults names us hs (looks names us hs alike) input.type_ref)) h) is

  -- all of them
  abbrev IsElsewhere : Option ℕ → Type 0
  IsElsewhere None = Unit {0}
  IsElsewhere (Some n) = Unmarked n

  rule_too : (f : Fault) (broken : IsSchemaFault us f) → IsElsewhere (found_at broken) → IsSchemaFault hs f
  rule_too f (rule.defined_twice h) free = rule.defined_twice (defined_twice_too f h free)
  rule_too f (rule.bad_extension h) free = rule.bad_extension (bad_extension_too f h free)
  rule_too f (rule.reserved_name h) free = rule.reserved_name (reserved_name_too f h free)
  rule_too f (rule.unknown_type h) free = rule.unknown_type (unknown_type_too f h free)
  rule_too f (rule.wrong_kind h) free = rule.wrong_kind (wrong_kind_too f h free)
  rule_too f (rule.repeated_root h) free = rule.repeated_root (repeated_root_too f h)
  rule_too f (rule.no_object h) free = rule.no_object (no_object_too f h)
  rule_too f (rule.shared_root h) free = rule.shared_root (shared_root_too f h)
  rule_too f (rule.empty_type h) free = rule.empty_type (empty_type_too f h free)
  rule_too f (rule.repeated_part h) free = rule.repeated_part (repeated_part_too f h free)
  rule_too f (rule.repeated_argument h) free = rule.repeated_argument (repeated_argument_too f h free)
  rule_too f (rule.bad_implementation h) free = rule.bad_implementation (bad_implementation_too f h free)
  rule_too f (rule.endless_input h) free = rule.endless_input (endless_input_too f h)
  rule_too f (rule.no_query_root h) free = rule.no_query_root (no_query_root_too f h)
  rule_too f (rule.bad_directive_or_default h) free = rule.bad_directive_or_default (bad_directive_or_default_too f h free)

  elsewhere : (o : Option ℕ) → IsElsewhere o ⊎ ((n : ℕ) × (o ≡ Some n) × Contains ns n)
  elsewhere None = inl tt
  elsewhere (Some n) = ⊎_elim (λ c. inr (n, refl, c)) (λ free. inl free) (is_among n ns)

  none_broken : ((f : Fault) → IsSchemaFault hs f → ⊥) → All (IsFaultlessAt us) ns → (f : Fault) → IsSchemaFault us f → ⊥
  none_broken sound there f broken =
      ⊎_elim (λ free. sound f (rule_too f broken free))
      (λ at. subst (IsFaultlessAt us) at.2.2 (there at.2.0 at.0 at.2.1) f broken at.1)
      (elsewhere (found_at broken))

pub other_objects_keep_types : OtherObjectsKeepTypes
other_objects_keep_types names es us numbers alike differ sound there f broken =
    let hs = between differ in
    none_broken names us hs numbers (is_mixed differ) (is_new names differ alike)
    (λ g h. (let old = documents_of_types_do_not_matter_to_types hs es (is_old differ) g h in sound old.0 old.1)) there f broken
