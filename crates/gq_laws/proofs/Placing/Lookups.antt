-- The field faults over type systems in which each look-up finds the same but for its places, and for fields that are not selected.
use Rattle.std.proofs.Common.{◌≡◌, ℕ, Bool, true, false, List, [], ◌∷◌, ◌++◌, map, Option, Some, None, refl, sym, ap, ◌∙◌, subst}
use Rattle.std.specs.Prelude.{◌||◌, if◌then◌else◌}
use Rattle.std.specs.Str.{bytes_eq}
use Rattle.std.specs.Option.{option_map, option_map_or}
use Rattle.std.proofs.lemmas.Bool.{or_parts}
use Rattle.std.proofs.lemmas.List.Folds.{list_any-append}
use Rattle.gq_text.specs.declared.place.Span.{Span}
use Rattle.gq_tree.specs.declared.type_system.DirectiveLocation.{DirectiveLocation}
use Rattle.gq_tree.specs.Plain.{NameOf, TypeOf, named, list_of, non_null, InputOf, FieldDefinitionOf, TypeSystemOf, place_type, place_input, place_field, place_type_system, no_place, Says, Val, Vals, DirectiveOf, Head, Sel, Sels, variable, int, float, string, boolean, null, enum, list, object, field, spread, inline}
use Rattle.gq_tree.specs.Forest.{more, labels}
use Rattle.gq_tree.specs.NamedTypes.{base_name}
use Rattle.gq_tree.specs.Wrapping.{is_null}
use Rattle.gq_fault.specs.declared.fault.Fault.{Fault}
use Rattle.gq_types.specs.declared.entry.TypeKind.{TypeKind}
use Rattle.gq_types.specs.declared.entry.TypeKind.TheVariants as kinds
use Rattle.gq_types.specs.Kinds.{is_input, is_composite}
use Rattle.gq_types.specs.Entries.{Text, EntryOf}
use Rattle.gq_types.specs.Arguments.{arguments_in, directive_arguments}
use Rattle.gq_types.specs.Joined.{kind_named}
use Rattle.std.specs.List.{list_any}
use Rattle.gq_tree.specs.Same.{same_locations}
use Rattle.gq_values.specs.ArgumentFaults.{argument_at}
use Rattle.gq_document.specs.Executable.{ExecutableOf}
use Rattle.gq_laws.specs.Placing.Types.{LooksAlike, PlacesOfTypesDoNotMatter}
use Rattle.gq_laws.specs.Placing.OtherFields.{is_one_of, LooksAlikeBut, selects_in, selects_one_of, SelectNone, OtherFieldsDoNotMatter}
use Rattle.gq_types.proofs.Placing.Alike.{back, seen}
use Rattle.gq_laws.proofs.Placing.Literals.{erase_expected, part_alike, type_too, fits_alike, object_erased}
use Rattle.gq_laws.proofs.Placing.Arguments.{option_too}
use Rattle.gq_laws.proofs.Placing.Schema.{none_too, base_alike, required_alike, at_input_alike, argument_named_alike, directive_alike}
use Rattle.gq_types.specs.Names.{field_named, input_named, argument_named, directive_named}
use Rattle.gq_values.specs.Literals.{fits, fits_kind, fits_enum, is_list, Expected, at_type, at_any, is_input_type, default_at, is_input_object, input_object_at, at_field, part_at, StandsIn, here, within, after}
use Rattle.gq_values.specs.LiteralFaults.{IsFaultOf, wrong_value, unknown_field, field_not_unique, field_missing, IsLiteralFault}
use Rattle.gq_values.specs.ArgumentFaults.{IsArgumentFault, unknown_argument, argument_not_unique, argument_missing, fault_in_value}
use Rattle.gq_values.specs.DirectiveFaults.{IsDirectiveFault, unknown_directive, directive_in_wrong_place, directive_repeated, fault_in_arguments}
use Rattle.gq_document.specs.Definitions.{OperationOf, FragmentOf}
use Rattle.gq_document.specs.Selections.{FieldOf, typename, typename_field, is_composite_named, field_on, selected_field, parent_below, SelectedOf, IsSelectionWithin, IsOfOperation, IsOfFragment, IsSelected}
use Rattle.gq_document.specs.Selections as selections
use Rattle.gq_fields.specs.SelectedFields.{SelectsField}
use Rattle.gq_fields.specs.Directives.{Site, IsSite}
use Rattle.gq_fields.specs.Directives as directives
use Rattle.gq_fields.specs.FieldFaults.{IsFieldFault}
use Rattle.gq_fields.specs.FieldFaults as faults

abbrev pub executable : List EntryOf → List OperationOf → List FragmentOf → ExecutableOf
executable es os gs = record { entries = es; operations = os; fragments = gs }

abbrev pub erase_inputs : List (InputOf Span) → List (InputOf (Unit {0}))
erase_inputs is = map (place_input no_place) is

abbrev pub erase_field : FieldOf → TypeOf (Unit {0}) × List (InputOf (Unit {0}))
erase_field f = (place_type no_place f.type_ref, erase_inputs f.arguments)

pub argument_at_alike : (a c : Option (List (InputOf Span))) (text : Text) → option_map erase_inputs a ≡ option_map erase_inputs c → erase_expected (argument_at a text) ≡ erase_expected (argument_at c text)
argument_at_alike None None text e = refl
argument_at_alike None (Some j) text e = absurd (cc)
argument_at_alike (Some i) None text e = absurd (cc)
argument_at_alike (Some i) (Some j) text e =
    let inputs : erase_inputs i ≡ erase_inputs j = cc in
    at_input_alike (argument_named i text) (argument_named j text) (argument_named_alike text i j inputs)

pub arguments_of : (a c : Option (TypeSystemOf Span)) → option_map (place_type_system no_place) a ≡ option_map (place_type_system no_place) c → option_map erase_inputs (option_map arguments_in a) ≡ option_map erase_inputs (option_map arguments_in c)
arguments_of None None e = refl
arguments_of None (Some j) e = absurd (cc)
arguments_of (Some i) None e = absurd (cc)
arguments_of (Some i) (Some j) e =
    let those : place_type_system no_place i ≡ place_type_system no_place j = cc in
    ap (λ z. Some z) (directive_alike i j those).2

field_step : (b c d : Bool) (o u : Option (FieldDefinitionOf Span)) → c ≡ d → option_map (place_field no_place) o ≡ option_map (place_field no_place) u →
    option_map erase_field (if b then (if c then Some typename_field else None) else option_map (λ f. record { type_ref = f.type_ref; arguments = f.arguments }) o)
    ≡ option_map erase_field (if b then (if d then Some typename_field else None) else option_map (λ f. record { type_ref = f.type_ref; arguments = f.arguments }) u)
field_step true c d o u e h = ap (λ z. option_map erase_field (if z then Some typename_field else None)) e
field_step false c d None None e h = refl
field_step false c d None (Some g) e h = absurd (cc)
field_step false c d (Some f) None e h = absurd (cc)
field_step false c d (Some f) (Some g) e h =
    let those : place_field no_place f ≡ place_field no_place g = cc in
    ap (λ z. Some (z.type_ref, z.arguments)) those

pub base_of : (a c : Option FieldOf) → option_map erase_field a ≡ option_map erase_field c → option_map (λ f. base_name f.type_ref) a ≡ option_map (λ f. base_name f.type_ref) c
base_of None None e = refl
base_of None (Some j) e = absurd (cc)
base_of (Some i) None e = absurd (cc)
base_of (Some i) (Some j) e =
    let those : erase_field i ≡ erase_field j = cc in
    ap (λ z. Some z) (base_alike i.type_ref j.type_ref (ap (λ z. z.0) those))

pub field_arguments : (a c : Option FieldOf) → option_map erase_field a ≡ option_map erase_field c → option_map erase_inputs (option_map (λ f. f.arguments) a) ≡ option_map erase_inputs (option_map (λ f. f.arguments) c)
field_arguments None None e = refl
field_arguments None (Some j) e = absurd (cc)
field_arguments (Some i) None e = absurd (cc)
field_arguments (Some i) (Some j) e =
    let those : erase_field i ≡ erase_field j = cc in
    ap (λ z. Some z.1) those

pub turned : (names : List Text) (es us : List EntryOf) → LooksAlikeBut names es us → LooksAlikeBut names us es
turned names es us same = record {
  kind = λ text. sym (same.kind text);
  field = λ type_name text other. sym (same.field type_name text other);
  input = λ type_name text. sym (same.input type_name text);
  value = λ type_name text. sym (same.value type_name text);
  member = λ type_name text. sym (same.member type_name text);
  declared = λ type_name text. sym (same.declared type_name text);
  directive = λ text. sym (same.directive text);
  root = λ kind. sym (same.root kind);
}

-- of no names: each field is another
pub all_fields : (es us : List EntryOf) → LooksAlike es us → LooksAlikeBut [] es us
all_fields es us same = record {
  kind = same.kind;
  field = λ type_name text other. same.field type_name text;
  input = same.input;
  value = same.value;
  member = same.member;
  declared = same.declared;
  directive = same.directive;
  root = same.root;
}

pub each_field : (es us : List EntryOf) → LooksAlikeBut [] es us → LooksAlike es us
each_field es us same = record {
  kind = same.kind;
  field = λ type_name text. same.field type_name text refl;
  input = same.input;
  value = same.value;
  member = same.member;
  declared = same.declared;
  directive = same.directive;
  root = same.root;
}

none_among : (heads : List (Head Span)) → list_any (selects_in []) heads ≡ false
none_among [] = refl
none_among (field alias name arguments directives braces place ∷ heads) = none_among heads
none_among (spread name directives place ∷ heads) = none_among heads
none_among (inline on directives braces place ∷ heads) = none_among heads

pub none_selected : (os : List OperationOf) (gs : List FragmentOf) → SelectNone [] os gs
none_selected os gs = record { operations = λ o c. none_among (labels o.set); fragments = λ g c. none_among (labels g.set) }

-- selections that select none of some names: the first, those below it, and those after it
pub set_parts : (names : List Text) (l : Head Span) (b r : Sels Span) → selects_one_of names (more l b r) ≡ false →
    (selects_in names l ≡ false) × (selects_one_of names b ≡ false) × (selects_one_of names r ≡ false)
set_parts names l b r e =
    let both = or_parts (selects_in names l) (list_any (selects_in names) (labels b ++ labels r)) e in
    let later = or_parts (selects_one_of names b) (selects_one_of names r) (sym (list_any-append (selects_in names) (labels b) (labels r)) ∙ both.1) in
    (both.0, later.0, later.1)

pub unselected : (names : List Text) {es : List EntryOf} {parent inner : Option Text} {set : Sels Span} {s : Sel Span} →
    selects_one_of names set ≡ false → IsSelectionWithin es parent set inner s → selects_in names s.label ≡ false
unselected names e (selections.here {head = head} {below = below} {rest = rest}) = (set_parts names head below rest e).0
unselected names e (selections.within {head = head} {below = below} {rest = rest} h) = unselected names (set_parts names head below rest e).1 h
unselected names e (selections.after {head = head} {below = below} {rest = rest} h) = unselected names (set_parts names head below rest e).2 h

module _ (names : List Text) (es us : List EntryOf) (same : LooksAlikeBut names es us) where
  -- literals
  enum_fits : (text : Text) (s : Says Span) → fits_enum es text s ≡ fits_enum us text s
  enum_fits text (enum name) = same.value text name.text
  enum_fits text (variable name place) = refl
  enum_fits text (null place) = refl
  enum_fits text (int spelling place) = refl
  enum_fits text (float spelling place) = refl
  enum_fits text (string spelling place) = refl
  enum_fits text (boolean value place) = refl
  enum_fits text (list place) = refl
  enum_fits text (object place) = refl

  kind_fits : (text : Text) (k : Option TypeKind) (s : Says Span) → fits_kind es text k s ≡ fits_kind us text k s
  kind_fits text (Some kinds.Enum) s = enum_fits text s
  kind_fits text (Some kinds.Scalar) s = refl
  kind_fits text (Some kinds.InputObject) s = refl
  kind_fits text (Some kinds.Object) s = refl
  kind_fits text (Some kinds.Interface) s = refl
  kind_fits text (Some kinds.Union) s = refl
  kind_fits text None s = refl

  type_fits : (t : TypeOf Span) (s : Says Span) → fits es t s ≡ fits us t s
  type_fits (named name) s = ap (λ k. fits_kind es name.text k s) (same.kind name.text) ∙ kind_fits name.text (kind_named us name.text) s
  type_fits (list_of item) s = ap (λ b. is_list s || is_null s || b) (type_fits item s)
  type_fits (non_null inner) s = ap (λ b. if is_null s then false else b) (type_fits inner s)

  input_types : (t : TypeOf Span) → is_input_type es t ≡ is_input_type us t
  input_types (named name) = ap (λ k. option_map_or is_input k false) (same.kind name.text)
  input_types (list_of item) = input_types item
  input_types (non_null inner) = input_types inner

  pub defaults : (t : TypeOf Span) → default_at es t ≡ default_at us t
  defaults t = ap (λ b. if b then at_type t else at_any) (input_types t)

  pub input_objects : (t : TypeOf Span) → input_object_at es t ≡ input_object_at us t
  input_objects (named name) = ap (λ k. if is_input_object k then Some name.text else None) (same.kind name.text)
  input_objects (list_of item) = input_objects item
  input_objects (non_null inner) = input_objects inner

  at_fields : (o : Option Text) (text : Text) → erase_expected (at_field es o text) ≡ erase_expected (at_field us o text)
  at_fields (Some type_name) text = at_input_alike (input_named es type_name text) (input_named us type_name text) (same.input type_name text)
  at_fields None text = refl

  pub parts : (r : Expected) (key : Option (NameOf Span)) → erase_expected (part_at es r key) ≡ erase_expected (part_at us r key)
  parts r None = refl
  parts (at_type t) (Some key) = ap (λ o. erase_expected (at_field es o key.text)) (input_objects t) ∙ at_fields (input_object_at us t) key.text
  parts at_any (Some key) = refl

  pub stands : {read : Option (NameOf Span) → Expected} {vs : Vals Span} {r : Expected} {v : Val Span} → StandsIn es read vs r v →
      (read2 : Option (NameOf Span) → Expected) → ((k : Option (NameOf Span)) → erase_expected (read k) ≡ erase_expected (read2 k)) → (q : Expected) × StandsIn us read2 vs q v × (erase_expected r ≡ erase_expected q)
  stands (here {part = part}) read2 h = (read2 part.key, here, h part.key)
  stands (within {read = read} {part = part} w) read2 h =
      let r = stands w (part_at us (read2 part.key)) (λ k. parts (read part.key) k ∙ part_alike us (read part.key) (read2 part.key) (h part.key) k k refl) in
      (r.0, within r.1, r.2)
  stands (after w) read2 h = let r = stands w read2 h in (r.0, after r.1, r.2)

  pub objects : (t u : TypeOf Span) → place_type no_place t ≡ place_type no_place u → input_object_at us u ≡ input_object_at es t
  objects t u e = sym (input_objects t ∙ seen (place_type no_place) (place_type back) (input_object_at us) (object_erased us) t u e)

  module _ {n : ℕ} {f : Fault} where
    part : {r q : Expected} {v : Val Span} → erase_expected r ≡ erase_expected q → IsFaultOf es n r v f → IsFaultOf us n q v f
    part {q = q} {v = v} h (wrong_value {t = t} a b e) =
        let u = type_too q t (ap erase_expected (sym a) ∙ h) in
        wrong_value u.1 (sym (type_fits t v.label.says ∙ fits_alike us t u.0 v.label.says v.label.says u.2 refl) ∙ b) e
    part {q = q} h (unknown_field {t = t} {type_name = type_name} {name = name} a b c d g e) =
        let u = type_too q t (ap erase_expected (sym a) ∙ h) in
        unknown_field u.1 (objects t u.0 u.2 ∙ b) c d (none_too (place_input no_place) (input_named es type_name name.text) (input_named us type_name name.text) (same.input type_name name.text) g) e
    part h (field_not_unique a b e) = field_not_unique a b e
    part {q = q} h (field_missing {t = t} {type_name = type_name} {text = text} {i = i} a b c d g k e) =
        let u = type_too q t (ap erase_expected (sym a) ∙ h) in
        let j = option_too (place_input no_place) (input_named us type_name text) i (ap (option_map (place_input no_place)) (sym d) ∙ same.input type_name text) in
        field_missing u.1 (objects t u.0 u.2 ∙ b) c j.1 (sym (required_alike i j.0 j.2) ∙ g) k e

    pub literal : {r : Expected} (q : Expected) {v : Val Span} → erase_expected r ≡ erase_expected q → IsLiteralFault es n r v f → IsLiteralFault us n q v f
    literal q e h =
        let i = stands h.stands (λ k. q) (λ k. e) in
        record { inner = i.0; part = h.part; stands = i.1; fault = part i.2 h.fault }

    argument : {ds : Option (List (InputOf Span))} (es2 : Option (List (InputOf Span))) {name : NameOf Span} {arguments : List (Val Span)} → option_map erase_inputs ds ≡ option_map erase_inputs es2 →
        IsArgumentFault es n ds name arguments f → IsArgumentFault us n es2 name arguments f
    argument es2 h (unknown_argument {known = known} {argument = one} a b c e) =
        let k = option_too erase_inputs es2 known (ap (option_map erase_inputs) (sym a) ∙ h) in
        unknown_argument k.1 b (none_too (place_input no_place) (argument_named known one.text) (argument_named k.0 one.text) (argument_named_alike one.text known k.0 k.2) c) e
    argument es2 h (argument_not_unique a e) = argument_not_unique a e
    argument es2 h (argument_missing {known = known} {text = text} {i = i} a b c d e) =
        let k = option_too erase_inputs es2 known (ap (option_map erase_inputs) (sym a) ∙ h) in
        let j = option_too (place_input no_place) (argument_named k.0 text) i (ap (option_map (place_input no_place)) (sym b) ∙ argument_named_alike text known k.0 k.2) in
        argument_missing k.1 j.1 (sym (required_alike i j.0 j.2) ∙ c) d e
    argument {ds = ds} es2 h (fault_in_value {key = key} a b l) = fault_in_value a b (literal (argument_at es2 key.text) (argument_at_alike ds es2 key.text h) l)

    pub directive : {location : DirectiveLocation} {before : List Text} {ds : List (DirectiveOf Span)} → IsDirectiveFault es n location before ds f → IsDirectiveFault us n location before ds f
    directive (unknown_directive {d = d} a b e) = unknown_directive a (none_too (place_type_system no_place) (directive_named es d.name.text) (directive_named us d.name.text) (same.directive d.name.text) b) e
    directive {location = location} (directive_in_wrong_place {d = d} {definition = definition} a b c e) =
        let u = option_too (place_type_system no_place) (directive_named us d.name.text) definition (ap (option_map (place_type_system no_place)) (sym b) ∙ same.directive d.name.text) in
        directive_in_wrong_place a u.1 (ap (λ z. list_any (same_locations location) z) (sym (directive_alike definition u.0 u.2).1) ∙ c) e
    directive (directive_repeated {d = d} {definition = definition} a b c e) =
        let u = option_too (place_type_system no_place) (directive_named us d.name.text) definition (ap (option_map (place_type_system no_place)) (sym b) ∙ same.directive d.name.text) in
        directive_repeated a u.1 (sym (directive_alike definition u.0 u.2).0 ∙ c) e
    directive (fault_in_arguments {d = d} a h) =
        fault_in_arguments a (argument (directive_arguments us d.name.text) (arguments_of (directive_named es d.name.text) (directive_named us d.name.text) (same.directive d.name.text)) h)

  -- selections
  pub composites : (text : Text) → is_composite_named es text ≡ is_composite_named us text
  composites text = ap (λ k. option_map_or is_composite k false) (same.kind text)

  on : (type_name text : Text) → is_one_of names text ≡ false → option_map erase_field (field_on es type_name text) ≡ option_map erase_field (field_on us type_name text)
  on type_name text other =
      field_step (bytes_eq text typename) (is_composite_named es type_name) (is_composite_named us type_name) (field_named es type_name text) (field_named us type_name text)
      (composites type_name) (same.field type_name text other)

  pub selected_on : (parent : Option Text) (text : Text) → is_one_of names text ≡ false →
      option_map erase_field (selected_field es parent text) ≡ option_map erase_field (selected_field us parent text)
  selected_on None text other = refl
  selected_on (Some type_name) text other = on type_name text other

  below_parent : (parent : Option Text) (head : Head Span) → selects_in names head ≡ false → parent_below es parent head ≡ parent_below us parent head
  below_parent parent (field alias name arguments directives braces place) other =
      base_of (selected_field es parent name.text) (selected_field us parent name.text) (selected_on parent name.text other)
  below_parent parent (spread name directives place) other = refl
  below_parent parent (inline None directives braces place) other = refl
  below_parent parent (inline (Some condition) directives braces place) other = refl

  selection : {parent inner : Option Text} {set : Sels Span} {s : Sel Span} → selects_one_of names set ≡ false → IsSelectionWithin es parent set inner s → IsSelectionWithin us parent set inner s
  selection e selections.here = selections.here
  selection e (selections.within {parent = parent} {inner = inner} {head = head} {below = below} {rest = rest} {selection = s} h) =
      let split = set_parts names head below rest e in
      selections.within (subst (λ z. IsSelectionWithin us z below inner s) (below_parent parent head split.0) (selection split.1 h))
  selection e (selections.after {head = head} {below = below} {rest = rest} h) = selections.after (selection (set_parts names head below rest e).2 h)

  pub of_operation : (o : OperationOf) (s : SelectedOf) → selects_one_of names o.set ≡ false → IsOfOperation es o s → IsOfOperation us o s
  of_operation o s e w = (w.0, subst (λ z. IsSelectionWithin us z o.set s.parent s.selection) (same.root o.kind) (selection e w.1))

  pub of_fragment : (g : FragmentOf) (s : SelectedOf) → selects_one_of names g.set ≡ false → IsOfFragment es g s → IsOfFragment us g s
  of_fragment g s e w = (w.0, selection e w.1)

  module _ (os : List OperationOf) (gs : List FragmentOf) (none : SelectNone names os gs) where
    pub selects : {s : SelectedOf} → IsSelected es os gs s → IsSelected us os gs s
    selects {s} (selections.of_operation {o = o} c w) = selections.of_operation c (of_operation o s (none.operations o c) w)
    selects {s} (selections.of_fragment {f = g} c w) = selections.of_fragment c (of_fragment g s (none.fragments g c) w)

    pub selected_none : {s : SelectedOf} → IsSelected es os gs s → selects_in names s.selection.label ≡ false
    selected_none (selections.of_operation {o = o} c w) = unselected names (none.operations o c) w.1
    selected_none (selections.of_fragment {f = g} c w) = unselected names (none.fragments g c) w.1

    -- no field that is selected has one of the names
    pub is_other : (one : SelectsField (executable es os gs)) → is_one_of names one.name.text ≡ false
    is_other one = ap (selects_in names) (sym one.is_field) ∙ selected_none one.stands

    abbrev one_in : SelectsField (executable es os gs) → SelectsField (executable us os gs)
    one_in one = record {
      selected = one.selected;
      stands = selects one.stands;
      alias = one.alias;
      name = one.name;
      arguments = one.arguments;
      directives = one.directives;
      braces = one.braces;
      place = one.place;
      is_field = one.is_field;
    }

    site : {s : Site} → IsSite (executable es os gs) s → IsSite (executable us os gs) s
    site (directives.of_operation c) = directives.of_operation c
    site (directives.of_variable c v) = directives.of_variable c v
    site (directives.of_fragment c) = directives.of_fragment c
    site (directives.of_selection c) = directives.of_selection (selects c)

    by_lookups : (f : Fault) → IsFieldFault (executable es os gs) f → IsFieldFault (executable us os gs) f
    by_lookups f (faults.unknown_field h) = faults.unknown_field (record {
      one = one_in h.one;
      type_name = h.type_name;
      is_parent = h.is_parent;
      kind = h.kind;
      is_known = sym (same.kind h.type_name) ∙ h.is_known;
      is_not_defined = none_too erase_field (field_on es h.type_name h.one.name.text) (field_on us h.type_name h.one.name.text) (on h.type_name h.one.name.text (is_other h.one)) h.is_not_defined;
      is = h.is;
    })
    by_lookups f (faults.wrong_selections h) =
        let parent = h.one.selected.parent in
        let text = h.one.name.text in
        let d = option_too erase_field (selected_field us parent text) h.definition (ap (option_map erase_field) (sym h.is_defined) ∙ selected_on parent text (is_other h.one)) in
        faults.wrong_selections (record {
          one = one_in h.one;
          definition = d.0;
          is_defined = d.1;
          kind = h.kind;
          is_known = ap (kind_named us) (sym (base_alike h.definition.type_ref d.0.type_ref (ap (λ z. z.0) d.2))) ∙ sym (same.kind (base_name h.definition.type_ref)) ∙ h.is_known;
          is_wrong = h.is_wrong;
          is = h.is;
        })
    by_lookups f (faults.wrong_argument h) =
        let parent = h.one.selected.parent in
        let text = h.one.name.text in
        faults.wrong_argument (record {
          one = one_in h.one;
          fault = argument (option_map (λ d. d.arguments) (selected_field us parent text))
              (field_arguments (selected_field es parent text) (selected_field us parent text) (selected_on parent text (is_other h.one))) h.fault;
        })
    by_lookups f (faults.wrong_directive h) = faults.wrong_directive (record { site = h.site; stands = site h.stands; fault = directive h.fault })
    by_lookups f (faults.wrong_default h) = faults.wrong_default (record {
      operation = h.operation;
      stands = h.stands;
      variable = h.variable;
      is_defined = h.is_defined;
      default = h.default;
      has_default = h.has_default;
      fault = literal (default_at us h.variable.type_ref) (ap erase_expected (defaults h.variable.type_ref)) h.fault;
    })

pub other_fields : OtherFieldsDoNotMatter IsFieldFault
other_fields names es us same os gs none f h = by_lookups names es us same os gs none f h

pub places_of_types : PlacesOfTypesDoNotMatter IsFieldFault
places_of_types es us same os gs f h = other_fields [] es us (all_fields es us same) os gs (none_selected os gs) f h
