-- The faults of variables over type systems in which each look-up finds the same but for its places, and for fields that are not selected.
use Rattle.std.proofs.Common.{◌≡◌, Bool, false, List, [], Option, Some, None, refl, sym, ap, ◌∙◌, subst}
use Rattle.std.specs.Prelude.{Contains, is_some, option_and_then}
use Rattle.std.specs.Option.{option_map}
use Rattle.gq_text.specs.declared.place.Span.{Span}
use Rattle.gq_tree.specs.NamedTypes.{base_name}
use Rattle.gq_tree.specs.Plain.{NameOf, Val, Vals, TypeOf, named, list_of, non_null, InputOf, VariableOf, DirectiveOf, Head, place_name, place_type, place_input, place_value, no_place}
use Rattle.gq_tree.specs.Wrapping.{is_non_null}
use Rattle.gq_fault.specs.declared.fault.Fault.{Fault}
use Rattle.gq_types.specs.Arguments.{directive_arguments}
use Rattle.gq_types.specs.Entries.{Text, EntryOf}
use Rattle.gq_types.specs.Joined.{kind_named}
use Rattle.gq_types.specs.Names.{input_named, argument_named, directive_named}
use Rattle.gq_values.specs.Literals.{Expected, at_type, at_any, input_object_at, part_at}
use Rattle.gq_document.specs.Definitions.{OperationOf, FragmentOf}
use Rattle.gq_document.specs.Selections.{selected_field}
use Rattle.gq_variables.specs.Uses.{PlaceOf, UseOf, is_defaulted, input_field_at, part_place, argument_place, field_arguments}
use Rattle.gq_variables.specs.Uses.{StandsIn, StandsInArguments, StandsInDirectives, StandsInSelection, IsUsedInOperation, IsUsedInFragment}
use Rattle.gq_variables.specs.Uses as uses
use Rattle.gq_variables.specs.ReachedUses.{ReachesUse, of_itself, of_fragment}
use Rattle.gq_variables.specs.VariablesAreInputTypes.{NamesNoInputType, unknown, of_output}
use Rattle.gq_variables.specs.AllVariableUsagesAreAllowed.{AreCompatible, both_non_null, variable_non_null, both_lists, same_name, IsAllowed, by_default, by_type, is_known}
use Rattle.gq_variables.specs.VariableFaults.{IsFaultOfOperation, IsVariableFault, not_unique, not_of_input_type, not_defined, not_used, not_allowed}
use Rattle.gq_laws.specs.Placing.Types.{PlacesOfTypesDoNotMatter}
use Rattle.gq_laws.specs.Placing.OtherFields.{LooksAlikeBut, selects_in, selects_one_of, SelectNone, OtherFieldsDoNotMatter}
use Rattle.gq_types.proofs.Placing.Alike.{back, seen}
use Rattle.gq_types.proofs.Placing.Lists.{and_then_same}
use Rattle.gq_spreads.proofs.ReachLemmas.{reached_stands}
use Rattle.gq_laws.proofs.Placing.Literals.{erase_expected, restore, part_alike, type_too, object_erased}
use Rattle.gq_laws.proofs.Placing.Schema.{base_alike, non_null_erased, argument_named_alike}
use Rattle.gq_laws.proofs.Placing.Lookups as lookups
use Rattle.gq_laws.proofs.Placing.Lookups.{executable, erase_inputs, argument_at_alike, turned, all_fields, none_selected, unselected}

-- what a place is read at, and whether it has a default
abbrev erase_place : PlaceOf → Option (TypeOf (Unit {0})) × Bool
erase_place p = (erase_expected p.reading, p.has_default)

place_alike : (p q : PlaceOf) → erase_expected p.reading ≡ erase_expected q.reading → p.has_default ≡ q.has_default → erase_place p ≡ erase_place q
place_alike p q e h = ap (λ z. (z, p.has_default)) e ∙ ap (λ z. (erase_expected q.reading, z)) h

some_alike : {A B : Type 0} (h : A → B) (o u : Option A) → option_map h o ≡ option_map h u → is_some o ≡ is_some u
some_alike h None None e = refl
some_alike h None (Some b) e = absurd (cc)
some_alike h (Some a) None e = absurd (cc)
some_alike h (Some a) (Some b) e = refl

defaulted_alike : (o u : Option (InputOf Span)) → option_map (place_input no_place) o ≡ option_map (place_input no_place) u → is_defaulted o ≡ is_defaulted u
defaulted_alike None None e = refl
defaulted_alike None (Some j) e = absurd (cc)
defaulted_alike (Some i) None e = absurd (cc)
defaulted_alike (Some i) (Some j) e =
    let inputs : place_input no_place i ≡ place_input no_place j = cc in
    some_alike (place_value no_place) i.default j.default (ap (λ z. z.default) inputs)

named_alike : (o u : Option (List (InputOf Span))) (text : Text) → option_map erase_inputs o ≡ option_map erase_inputs u →
    option_map (place_input no_place) (option_and_then (λ known. argument_named known text) o) ≡ option_map (place_input no_place) (option_and_then (λ known. argument_named known text) u)
named_alike None None text e = refl
named_alike None (Some j) text e = absurd (cc)
named_alike (Some i) None text e = absurd (cc)
named_alike (Some i) (Some j) text e =
    let inputs : erase_inputs i ≡ erase_inputs j = cc in
    argument_named_alike text i j inputs

argument_places : (o u : Option (List (InputOf Span))) (text : Text) → option_map erase_inputs o ≡ option_map erase_inputs u →
    erase_place (argument_place o text) ≡ erase_place (argument_place u text)
argument_places o u text e = place_alike (argument_place o text) (argument_place u text)
    (argument_at_alike o u text e)
    (defaulted_alike (option_and_then (λ known. argument_named known text) o) (option_and_then (λ known. argument_named known text) u) (named_alike o u text e))

-- types that may stand where others are wanted
non_null_alike : (t u : TypeOf Span) → place_type no_place t ≡ place_type no_place u → is_non_null t ≡ is_non_null u
non_null_alike t u e = seen (place_type no_place) (place_type back) (λ z. is_non_null z) non_null_erased t u e

compatible : {v u : TypeOf Span} → AreCompatible v u → (t : TypeOf Span) → place_type no_place t ≡ place_type no_place u → AreCompatible v t
compatible (both_non_null {location = u} c) (non_null t) e =
    let inner : place_type no_place t ≡ place_type no_place u = cc in
    both_non_null (compatible c t inner)
compatible (both_non_null c) (named n) e = absurd (cc)
compatible (both_non_null c) (list_of t) e = absurd (cc)
compatible (variable_non_null {location = u} n c) t e = variable_non_null (non_null_alike t u e ∙ n) (compatible c t e)
compatible (both_lists {location = u} c) (list_of t) e =
    let inner : place_type no_place t ≡ place_type no_place u = cc in
    both_lists (compatible c t inner)
compatible (both_lists c) (named n) e = absurd (cc)
compatible (both_lists c) (non_null t) e = absurd (cc)
compatible (same_name {location = m} is) (named n) e =
    let names : place_name no_place n ≡ place_name no_place m = cc in
    same_name (is ∙ ap (λ z. z.text) (sym names))
compatible (same_name is) (list_of t) e = absurd (cc)
compatible (same_name is) (non_null t) e = absurd (cc)

allowed : {v : VariableOf Span} {b : Bool} {u : TypeOf Span} → IsAllowed v b u → (t : TypeOf Span) → place_type no_place t ≡ place_type no_place u → IsAllowed v b t
allowed (by_default {location = u} n d c) (non_null t) e =
    let inner : place_type no_place t ≡ place_type no_place u = cc in
    by_default n d (compatible c t inner)
allowed (by_default n d c) (named m) e = absurd (cc)
allowed (by_default n d c) (list_of t) e = absurd (cc)
allowed (by_type c) t e = by_type (compatible c t e)

-- the same use, read at another place
abbrev moved : UseOf → PlaceOf → UseOf
moved u place = record { file = u.file; name = u.name; place = place }

-- uses
module _ (names : List Text) (es us : List EntryOf) (same : LooksAlikeBut names es us) where
  input_fields : (r : Expected) (text : Text) → option_map (place_input no_place) (input_field_at es r text) ≡ option_map (place_input no_place) (input_field_at us r text)
  input_fields (at_type t) text =
      ap (λ o. option_map (place_input no_place) (option_and_then (λ type_name. input_named es type_name text) o)) (lookups.input_objects names es us same t)
      ∙ and_then_same (place_input no_place) (λ type_name. input_named es type_name text) (λ type_name. input_named us type_name text) (λ type_name. same.input type_name text) (input_object_at us t)
  input_fields at_any text = refl

  input_field_erased : (text : Text) (r : Expected) → input_field_at us r text ≡ input_field_at us (restore (erase_expected r)) text
  input_field_erased text (at_type t) = ap (λ o. option_and_then (λ type_name. input_named us type_name text) o) (object_erased us t)
  input_field_erased text at_any = refl

  input_fields_alike : (r q : Expected) (text : Text) → erase_expected r ≡ erase_expected q →
      option_map (place_input no_place) (input_field_at es r text) ≡ option_map (place_input no_place) (input_field_at us q text)
  input_fields_alike r q text e = input_fields r text ∙ ap (option_map (place_input no_place)) (seen erase_expected restore (λ z. input_field_at us z text) (input_field_erased text) r q e)

  readings : (r q : Expected) (key : Option (NameOf Span)) → erase_expected r ≡ erase_expected q → erase_expected (part_at es r key) ≡ erase_expected (part_at us q key)
  readings r q key e = lookups.parts names es us same r key ∙ part_alike us r q e key key refl

  parts : (p q : PlaceOf) (key : Option (NameOf Span)) → erase_place p ≡ erase_place q → erase_place (part_place es p key) ≡ erase_place (part_place us q key)
  parts p q None e = place_alike (part_place es p None) (part_place us q None) (readings p.reading q.reading None (ap (λ z. z.0) e)) refl
  parts p q (Some key) e = place_alike (part_place es p (Some key)) (part_place us q (Some key))
      (readings p.reading q.reading (Some key) (ap (λ z. z.0) e))
      (defaulted_alike (input_field_at es p.reading key.text) (input_field_at us q.reading key.text) (input_fields_alike p.reading q.reading key.text (ap (λ z. z.0) e)))

  stands : {at : Option (NameOf Span) → PlaceOf} {vs : Vals Span} {name : NameOf Span} {place : PlaceOf} → StandsIn es at vs name place →
      (at2 : Option (NameOf Span) → PlaceOf) → ((k : Option (NameOf Span)) → erase_place (at k) ≡ erase_place (at2 k)) →
      (place2 : PlaceOf) × StandsIn us at2 vs name place2 × (erase_place place ≡ erase_place place2)
  stands (uses.here {part = part} is) at2 h = (at2 part.key, uses.here is, h part.key)
  stands (uses.within {at = at} {part = part} w) at2 h =
      let r = stands w (part_place us (at2 part.key)) (λ k. parts (at part.key) (at2 part.key) k (h part.key)) in
      (r.0, uses.within {place = r.0} r.1, r.2)
  stands (uses.after w) at2 h = let r = stands w at2 h in (r.0, uses.after {place = r.0} r.1, r.2)

  in_arguments : {o : Option (List (InputOf Span))} (u : Option (List (InputOf Span))) {arguments : List (Val Span)} {name : NameOf Span} {place : PlaceOf} →
      option_map erase_inputs o ≡ option_map erase_inputs u → StandsInArguments es o arguments name place →
      (place2 : PlaceOf) × StandsInArguments us u arguments name place2 × (erase_place place ≡ erase_place place2)
  in_arguments {o} u e h =
      let r = stands h.stands (λ k. argument_place u h.key.text) (λ k. argument_places o u h.key.text e) in
      (r.0, record { argument = h.argument; given = h.given; key = h.key; is_key = h.is_key; stands = r.1 }, r.2)

  in_directives : {ds : List (DirectiveOf Span)} {name : NameOf Span} {place : PlaceOf} → StandsInDirectives es ds name place →
      (place2 : PlaceOf) × StandsInDirectives us ds name place2 × (erase_place place ≡ erase_place place2)
  in_directives h =
      let text = h.directive.name.text in
      let r = in_arguments (directive_arguments us text) (lookups.arguments_of (directive_named es text) (directive_named us text) (same.directive text)) h.stands in
      (r.0, record { directive = h.directive; given = h.given; stands = r.1 }, r.2)

  in_selection : {parent : Option Text} {head : Head Span} {name : NameOf Span} {place : PlaceOf} → selects_in names head ≡ false → StandsInSelection es parent head name place →
      (place2 : PlaceOf) × StandsInSelection us parent head name place2 × (erase_place place ≡ erase_place place2)
  in_selection {parent} other (uses.in_arguments {field_name = field_name} is h) =
      let text = field_name.text in
      let found = lookups.selected_on names es us same parent text (ap (selects_in names) (sym is) ∙ other) in
      let r = in_arguments (field_arguments us parent text) (lookups.field_arguments (selected_field es parent text) (selected_field us parent text) found) h in
      (r.0, uses.in_arguments is r.1, r.2)
  in_selection other (uses.in_directives h) = let r = in_directives h in (r.0, uses.in_directives r.1, r.2)

  in_operation : {o : OperationOf} {u : UseOf} → selects_one_of names o.set ≡ false → IsUsedInOperation es o u →
      (place2 : PlaceOf) × IsUsedInOperation us o (moved u place2) × (erase_place u.place ≡ erase_place place2)
  in_operation {o} others (uses.in_selection {s = s} w e h) =
      let r = in_selection (unselected names others w.1) h in
      (r.0, uses.in_selection (lookups.of_operation names es us same o s others w) e r.1, r.2)
  in_operation others (uses.in_directive e h) = let r = in_directives h in (r.0, uses.in_directive e r.1, r.2)
  in_operation others (uses.in_variable e c h) = let r = in_directives h in (r.0, uses.in_variable e c r.1, r.2)

  in_fragment : {g : FragmentOf} {u : UseOf} → selects_one_of names g.set ≡ false → IsUsedInFragment es g u →
      (place2 : PlaceOf) × IsUsedInFragment us g (moved u place2) × (erase_place u.place ≡ erase_place place2)
  in_fragment {g} others (uses.within_selection {s = s} w e h) =
      let r = in_selection (unselected names others w.1) h in
      (r.0, uses.within_selection (lookups.of_fragment names es us same g s others w) e r.1, r.2)
  in_fragment others (uses.within_directive e h) = let r = in_directives h in (r.0, uses.within_directive e r.1, r.2)

  reaches : {os : List OperationOf} {gs : List FragmentOf} {o : OperationOf} {u : UseOf} → SelectNone names os gs → Contains os o → ReachesUse (executable es os gs) o u →
      (place2 : PlaceOf) × ReachesUse (executable us os gs) o (moved u place2) × (erase_place u.place ≡ erase_place place2)
  reaches {o = o} none stands (of_itself h) = let r = in_operation (none.operations o stands) h in (r.0, of_itself r.1, r.2)
  reaches {gs = gs} {o = o} none stands (of_fragment {f = g} c h) =
      let r = in_fragment (none.fragments g (reached_stands gs o.set g c)) h in
      (r.0, of_fragment c r.1, r.2)

  no_input : {text : Text} → NamesNoInputType es text → NamesNoInputType us text
  no_input {text} (unknown e) = unknown (sym (same.kind text) ∙ e)
  no_input {text} (of_output e is) = of_output (sym (same.kind text) ∙ e) is

  known : (t : TypeOf Span) → is_known es t ≡ is_known us t
  known t = ap (λ k. is_some k) (same.kind (base_name t))

-- faults
module _ (names : List Text) (es us : List EntryOf) (same : LooksAlikeBut names es us) (os : List OperationOf) (gs : List FragmentOf) (none : SelectNone names os gs) (f : Fault) where
  of_operation : {o : OperationOf} → Contains os o → IsFaultOfOperation (executable es os gs) o f → IsFaultOfOperation (executable us os gs) o f
  of_operation stands (not_unique h) = not_unique h
  of_operation stands (not_of_input_type h) = not_of_input_type (record {
    variable = h.variable;
    defined = h.defined;
    no_input = no_input names es us same h.no_input;
    is = h.is;
  })
  of_operation stands (not_defined h) =
      let r = reaches names es us same none stands h.reached in
      not_defined (record { one = moved h.one r.0; reached = r.1; undefined = h.undefined; is = h.is })
  of_operation stands (not_used h) = not_used (record {
    variable = h.variable;
    defined = h.defined;
    unused = λ u c. let r = reaches names us es (turned names es us same) none stands c in h.unused (moved u r.0) r.1;
    is = h.is;
  })
  of_operation stands (not_allowed h) =
      let r = reaches names es us same none stands h.reached in
      let t = type_too r.0.reading h.location (ap erase_expected (sym h.read_at) ∙ ap (λ z. z.0) r.2) in
      let ends : is_known us t.0 ≡ is_known es h.location = ap (λ z. is_some (kind_named us z)) (sym (base_alike h.location t.0 t.2)) ∙ sym (known names es us same h.location) in
      not_allowed (record {
        one = moved h.one r.0;
        reached = r.1;
        variable = h.variable;
        defined = h.defined;
        names_it = h.names_it;
        location = t.0;
        read_at = t.1;
        variable_known = sym (known names es us same h.variable.type_ref) ∙ h.variable_known;
        location_known = ends ∙ h.location_known;
        not_allowed = λ a. h.not_allowed (subst (λ b. IsAllowed h.variable b h.location) (ap (λ z. z.1) (sym r.2)) (allowed a h.location t.2));
        is = h.is;
      })

  variable_fault : IsVariableFault (executable es os gs) f → IsVariableFault (executable us os gs) f
  variable_fault h = record { operation = h.operation; stands = h.stands; fault = of_operation h.stands h.fault }

pub other_fields_of_variables : OtherFieldsDoNotMatter IsVariableFault
other_fields_of_variables names es us same os gs none f h = variable_fault names es us same os gs none f h

pub types_of_variables : PlacesOfTypesDoNotMatter IsVariableFault
types_of_variables es us same os gs f h = other_fields_of_variables [] es us (all_fields es us same) os gs (none_selected os gs) f h
