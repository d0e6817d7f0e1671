-- The faults of variables over type systems in which each look-up finds the same.
use Rattle.std.proofs.Common.{◌≡◌, List, Option, Some, None, refl, sym, ap, ◌∙◌, subst}
use Rattle.std.specs.Prelude.{is_some, option_and_then}
use Rattle.std.specs.Option.{option_map}
use Rattle.gq_text.specs.declared.place.Span.{Span}
use Rattle.gq_tree.specs.NamedTypes.{base_name}
use Rattle.gq_tree.specs.Plain.{NameOf, Val, Vals, TypeOf, InputOf, DirectiveOf, Head}
use Rattle.gq_fault.specs.declared.fault.Fault.{Fault}
use Rattle.gq_types.specs.Entries.{Text, EntryOf}
use Rattle.gq_types.specs.Names.{input_named}
use Rattle.gq_values.specs.Literals.{Expected, at_type, at_any, field_at, input_object_at}
use Rattle.gq_document.specs.Definitions.{OperationOf, FragmentOf}
use Rattle.gq_document.specs.Selections.{FieldOf}
use Rattle.gq_variables.specs.Uses.{PlaceOf, UseOf, is_defaulted, input_field_at, part_place, StandsIn, StandsInArguments, StandsInDirectives, StandsInSelection, IsUsedInOperation, IsUsedInFragment}
use Rattle.gq_variables.specs.Uses as uses
use Rattle.gq_variables.specs.ReachedUses.{ReachesUse, of_itself, of_fragment}
use Rattle.gq_variables.specs.VariablesAreInputTypes.{NamesNoInputType, unknown, of_output}
use Rattle.gq_variables.specs.AllVariableUsagesAreAllowed.{is_known}
use Rattle.gq_variables.specs.VariableFaults.{IsFaultOfOperation, IsVariableFault, not_unique, not_of_input_type, not_defined, not_used, not_allowed}
use Rattle.gq_by_file.proofs.OneFile.Comes.{executable}
use Rattle.gq_by_file.proofs.OneFile.Options.{and_then_same}
use Rattle.gq_by_file.proofs.OneFile.Lookups as lookups
use Rattle.gq_by_file.proofs.OneFile.Lookups.{SameLookups, turned, input_objects, fields_at, arguments_of, selected_on}

abbrev place_at : Expected → Option (InputOf Span) → PlaceOf
place_at reading input = record { reading = reading; has_default = is_defaulted input }

-- uses
module _ (es us : List EntryOf) (same : SameLookups es us) where
  input_fields : (r : Expected) (text : Text) → input_field_at es r text ≡ input_field_at us r text
  input_fields (at_type t) text =
      ap (λ o. option_and_then (λ type_name. input_named es type_name text) o) (input_objects es us same t)
      ∙ and_then_same (λ type_name. input_named es type_name text) (λ type_name. input_named us type_name text) (λ type_name. same.input type_name text) (input_object_at us t)
  input_fields at_any text = refl

  parts : (place : PlaceOf) (key : Option (NameOf Span)) → part_place es place key ≡ part_place us place key
  parts place None = refl
  parts place (Some key) =
      ap (λ r. place_at r (input_field_at es place.reading key.text)) (fields_at es us same place.reading key.text)
      ∙ ap (λ o. place_at (field_at us place.reading key.text) o) (input_fields place.reading key.text)

  stands : {at : Option (NameOf Span) → PlaceOf} {vs : Vals Span} {name : NameOf Span} {place : PlaceOf} → StandsIn es at vs name place → StandsIn us at vs name place
  stands (uses.here is) = uses.here is
  stands (uses.within {at = at} {part = part} {below = below} {name = name} {place = place} h) =
      let e : part_place es (at part.key) ≡ part_place us (at part.key) = λ i key. parts (at part.key) key i in
      uses.within (subst (λ z. StandsIn us z below name place) e (stands h))
  stands (uses.after h) = uses.after (stands h)

  in_arguments : {ds : Option (List (InputOf Span))} {arguments : List (Val Span)} {name : NameOf Span} {place : PlaceOf} → StandsInArguments es ds arguments name place →
      StandsInArguments us ds arguments name place
  in_arguments h = record { argument = h.argument; given = h.given; key = h.key; is_key = h.is_key; stands = stands h.stands }

  in_directives : {ds : List (DirectiveOf Span)} {name : NameOf Span} {place : PlaceOf} → StandsInDirectives es ds name place → StandsInDirectives us ds name place
  in_directives {name = name} {place = place} h = record {
    directive = h.directive;
    given = h.given;
    stands = subst (λ z. StandsInArguments us z h.directive.arguments name place) (arguments_of es us same h.directive.name.text) (in_arguments h.stands);
  }

  in_selection : {parent : Option Text} {head : Head Span} {name : NameOf Span} {place : PlaceOf} → StandsInSelection es parent head name place → StandsInSelection us parent head name place
  in_selection {parent} {head} {name} {place} (uses.in_arguments {field_name = field_name} {arguments = arguments} is h) =
      uses.in_arguments is (subst (λ (z : Option FieldOf). StandsInArguments us (option_map (λ d. d.arguments) z) arguments name place) (selected_on es us same parent field_name.text) (in_arguments h))
  in_selection (uses.in_directives h) = uses.in_directives (in_directives h)

  in_operation : {o : OperationOf} {u : UseOf} → IsUsedInOperation es o u → IsUsedInOperation us o u
  in_operation {o} (uses.in_selection {s = s} w e h) = uses.in_selection (lookups.of_operation es us same o s w) e (in_selection h)
  in_operation (uses.in_directive e h) = uses.in_directive e (in_directives h)
  in_operation (uses.in_variable e c h) = uses.in_variable e c (in_directives h)

  in_fragment : {g : FragmentOf} {u : UseOf} → IsUsedInFragment es g u → IsUsedInFragment us g u
  in_fragment {g} (uses.within_selection {s = s} w e h) = uses.within_selection (lookups.of_fragment es us same g s w) e (in_selection h)
  in_fragment (uses.within_directive e h) = uses.within_directive e (in_directives h)

  reaches : {os : List OperationOf} {gs : List FragmentOf} {o : OperationOf} {u : UseOf} → ReachesUse (executable es os gs) o u → ReachesUse (executable us os gs) o u
  reaches (of_itself h) = of_itself (in_operation h)
  reaches (of_fragment r h) = of_fragment r (in_fragment h)

  no_input : {text : Text} → NamesNoInputType es text → NamesNoInputType us text
  no_input {text} (unknown e) = unknown (sym (same.kind text) ∙ e)
  no_input {text} (of_output e is) = of_output (sym (same.kind text) ∙ e) is

  known : (t : TypeOf Span) → is_known es t ≡ is_known us t
  known t = ap (λ k. is_some k) (same.kind (base_name t))

-- faults
module _ (es us : List EntryOf) (same : SameLookups es us) (os : List OperationOf) (gs : List FragmentOf) (f : Fault) where
  of_operation : {o : OperationOf} → IsFaultOfOperation (executable es os gs) o f → IsFaultOfOperation (executable us os gs) o f
  of_operation (not_unique h) = not_unique h
  of_operation (not_of_input_type h) = not_of_input_type (record {
    variable = h.variable;
    defined = h.defined;
    no_input = no_input es us same h.no_input;
    is = h.is;
  })
  of_operation (not_defined h) = not_defined (record {
    one = h.one;
    reached = reaches es us same h.reached;
    undefined = h.undefined;
    is = h.is;
  })
  of_operation (not_used h) = not_used (record {
    variable = h.variable;
    defined = h.defined;
    unused = λ u r. h.unused u (reaches us es (turned same) r);
    is = h.is;
  })
  of_operation (not_allowed h) = not_allowed (record {
    one = h.one;
    reached = reaches es us same h.reached;
    variable = h.variable;
    defined = h.defined;
    names_it = h.names_it;
    location = h.location;
    read_at = h.read_at;
    variable_known = sym (known es us same h.variable.type_ref) ∙ h.variable_known;
    location_known = sym (known es us same h.location) ∙ h.location_known;
    not_allowed = h.not_allowed;
    is = h.is;
  })

  pub variable_fault : IsVariableFault (executable es os gs) f → IsVariableFault (executable us os gs) f
  variable_fault h = record { operation = h.operation; stands = h.stands; fault = of_operation h.fault }
