-- The faults of variables in definitions that are equal but for their places.
use Rattle.std.proofs.Common.{◌≡◌, Bool, List, [], ◌∷◌, Option, Some, None, map, refl, sym, ap, ◌∙◌, subst}
use Rattle.std.specs.Prelude.{is_some, not, ◌||◌}
use Rattle.std.specs.Option.{option_map}
use Rattle.gq_text.specs.declared.place.Span.{Span}
use Rattle.gq_fault.specs.declared.fault.Fault.{Fault}
use Rattle.gq_fault.specs.FaultPlaces.{fault_at}
use Rattle.gq_fault.specs.declared.code.Code.TheVariants.{VariableNotUnique, VariableNotOfInputType, VariableNotDefined, VariableNotUsed, VariableNotAllowedHere}
use Rattle.gq_tree.specs.Plain.{Says, Val, TypeOf, named, list_of, non_null, variable, VariableOf, place_name, place_says, place_value, place_type, place_variable, no_place}
use Rattle.gq_tree.specs.Wrapping.{is_non_null, is_null}
use Rattle.gq_types.specs.Entries.{EntryOf}
use Rattle.gq_types.specs.Joined.{kind_named}
use Rattle.gq_document.specs.Definitions.{OperationOf, FragmentOf}
use Rattle.gq_document.specs.Executable.{ExecutableOf}
use Rattle.gq_variables.specs.VariableUniqueness.{IsNotUnique}
use Rattle.gq_variables.specs.VariablesAreInputTypes.{NamesNoInputType, IsNotOfInputType}
use Rattle.gq_variables.specs.AllVariableUsesDefined.{IsNotDefined}
use Rattle.gq_variables.specs.AllVariablesUsed.{IsNotUsed}
use Rattle.gq_variables.specs.AllVariableUsagesAreAllowed.{AreCompatible, both_non_null, variable_non_null, both_lists, same_name, is_value, IsAllowed, by_default, by_type, IsNotAllowed}
use Rattle.gq_variables.specs.VariableFaults.{IsFaultOfOperation, not_unique, not_of_input_type, not_defined, not_used, not_allowed, IsVariableFault}
use Rattle.gq_laws.specs.Placing.Places.{erase_operation, erase_fragment, HasLike, PlacesDoNotMatter}
use Rattle.gq_types.proofs.Placing.Alike.{back, seen, contains, repeated}
use Rattle.gq_laws.proofs.Placing.Schema.{base_alike, non_null_erased}
use Rattle.gq_laws.proofs.Placing.UsePlaces.{with_name, reached_use}

-- variables
defined_alike : (o p : OperationOf) → erase_operation o ≡ erase_operation p → map (place_variable no_place) o.variables ≡ map (place_variable no_place) p.variables
defined_alike o p e = let defs = ap (λ z. z.1) e in cc

texts_erased : (vs : List (VariableOf Span)) → map (λ v. v.name.text) vs ≡ map (λ v. v.name.text) (map (place_variable no_place) vs)
texts_erased [] = refl
texts_erased (v ∷ vs) = ap (λ z. v.name.text ∷ z) (texts_erased vs)

texts_alike : (vs ws : List (VariableOf Span)) → map (place_variable no_place) vs ≡ map (place_variable no_place) ws → map (λ v. v.name.text) vs ≡ map (λ v. v.name.text) ws
texts_alike vs ws e = texts_erased vs ∙ ap (λ z. map (λ v. v.name.text) z) e ∙ sym (texts_erased ws)

-- their types
non_null_alike : (t u : TypeOf Span) → place_type no_place t ≡ place_type no_place u → is_non_null t ≡ is_non_null u
non_null_alike t u e = seen (place_type no_place) (place_type back) (λ z. is_non_null z) non_null_erased t u e

null_erased : (s : Says Span) → is_null s ≡ is_null (place_says back (place_says no_place s))
null_erased (variable name place) = refl
null_erased _ = refl

value_erased : (v : Option (Val Span)) → is_value v ≡ is_value (option_map (place_value back) (option_map (place_value no_place) v))
value_erased None = refl
value_erased (Some value) = ap not (null_erased value.label.says)

value_alike : (v w : Option (Val Span)) → option_map (place_value no_place) v ≡ option_map (place_value no_place) w → is_value v ≡ is_value w
value_alike v w e = seen (option_map (place_value no_place)) (option_map (place_value back)) is_value value_erased v w e

compatible_too : {t l : TypeOf Span} → AreCompatible t l → (u : TypeOf Span) → place_type no_place t ≡ place_type no_place u → AreCompatible u l
compatible_too (both_non_null {variable = t} a) (non_null u) e =
    let inners : place_type no_place t ≡ place_type no_place u = cc in
    both_non_null (compatible_too a u inners)
compatible_too (both_non_null a) (named n) e = absurd (cc)
compatible_too (both_non_null a) (list_of u) e = absurd (cc)
compatible_too (variable_non_null {variable = t} is a) (non_null u) e =
    let inners : place_type no_place t ≡ place_type no_place u = cc in
    variable_non_null is (compatible_too a u inners)
compatible_too (variable_non_null is a) (named n) e = absurd (cc)
compatible_too (variable_non_null is a) (list_of u) e = absurd (cc)
compatible_too (both_lists {variable = t} a) (list_of u) e =
    let items : place_type no_place t ≡ place_type no_place u = cc in
    both_lists (compatible_too a u items)
compatible_too (both_lists a) (named n) e = absurd (cc)
compatible_too (both_lists a) (non_null u) e = absurd (cc)
compatible_too (same_name {variable = m} is) (named n) e =
    let names : place_name no_place m ≡ place_name no_place n = cc in
    same_name (ap (λ z. z.text) (sym names) ∙ is)
compatible_too (same_name is) (list_of u) e = absurd (cc)
compatible_too (same_name is) (non_null u) e = absurd (cc)

allowed_too : (v w : VariableOf Span) → place_variable no_place v ≡ place_variable no_place w → {place_has_default : Bool} {location : TypeOf Span} → IsAllowed v place_has_default location → IsAllowed w place_has_default location
allowed_too v w e {place_has_default} (by_default nullable default c) =
    let types = ap (λ z. z.type_ref) e in
    by_default (sym (non_null_alike v.type_ref w.type_ref types) ∙ nullable) (ap (λ b. b || place_has_default) (sym (value_alike v.default w.default (ap (λ z. z.default) e))) ∙ default)
    (compatible_too c w.type_ref types)
allowed_too v w e (by_type c) = by_type (compatible_too c w.type_ref (ap (λ z. z.type_ref) e))

module _ (es : List EntryOf) (os ps : List OperationOf) (fs gs : List FragmentOf) (ef : map erase_fragment fs ≡ map erase_fragment gs) (o p : OperationOf) (same : erase_operation o ≡ erase_operation p) (f : Fault) where
  abbrev x : ExecutableOf
  x = record { entries = es; operations = os; fragments = fs }

  abbrev y : ExecutableOf
  y = record { entries = es; operations = ps; fragments = gs }

  pub not_unique_too : IsNotUnique o f → HasLike (IsNotUnique p) f
  not_unique_too h =
      let v = repeated (λ v. v.name.text) o.variables p.variables (texts_alike o.variables p.variables (defined_alike o p same)) h.variable h.repeated in (
        fault_at p.file VariableNotUnique v.0.name,
        record { variable = v.0; repeated = v.1; is = refl },
        sym (ap (λ z. z.0) same) ∙ ap (λ z. z.file) (sym h.is),
        ap (λ z. z.code) (sym h.is),
      )

  pub not_of_input_type_too : IsNotOfInputType es o f → HasLike (IsNotOfInputType es p) f
  not_of_input_type_too h =
      let v = contains (place_variable no_place) o.variables p.variables (defined_alike o p same) h.variable h.defined in (
        fault_at p.file VariableNotOfInputType v.0.name,
        record {
          variable = v.0;
          defined = v.1;
          no_input = subst (NamesNoInputType es) (base_alike h.variable.type_ref v.0.type_ref (ap (λ z. z.type_ref) v.2)) h.no_input;
          is = refl;
        },
        sym (ap (λ z. z.0) same) ∙ ap (λ z. z.file) (sym h.is),
        ap (λ z. z.code) (sym h.is),
      )

  pub not_defined_too : IsNotDefined x o f → HasLike (IsNotDefined y p) f
  not_defined_too h =
      let m = reached_use es os ps fs gs ef o p same h.one h.reached in (
        fault_at h.one.file VariableNotDefined m.0,
        record {
          one = with_name h.one m.0;
          reached = m.1;
          undefined = λ w d e.
              let v = contains (place_variable no_place) p.variables o.variables (sym (defined_alike o p same)) w d in
              h.undefined v.0 v.1 (ap (λ z. z.name.text) (sym v.2) ∙ e ∙ sym m.2);
          is = refl;
        },
        ap (λ z. z.file) (sym h.is),
        ap (λ z. z.code) (sym h.is),
      )

  pub not_used_too : IsNotUsed x o f → HasLike (IsNotUsed y p) f
  not_used_too h =
      let v = contains (place_variable no_place) o.variables p.variables (defined_alike o p same) h.variable h.defined in (
        fault_at p.file VariableNotUsed v.0.name,
        record {
          variable = v.0;
          defined = v.1;
          unused = λ u r e.
              let m = reached_use es ps os gs fs (sym ef) p o (sym same) u r in
              h.unused (with_name u m.0) m.1 (sym m.2 ∙ e ∙ ap (λ z. z.name.text) (sym v.2));
          is = refl;
        },
        sym (ap (λ z. z.0) same) ∙ ap (λ z. z.file) (sym h.is),
        ap (λ z. z.code) (sym h.is),
      )

  pub not_allowed_too : IsNotAllowed x o f → HasLike (IsNotAllowed y p) f
  not_allowed_too h =
      let m = reached_use es os ps fs gs ef o p same h.one h.reached in
      let v = contains (place_variable no_place) o.variables p.variables (defined_alike o p same) h.variable h.defined in (
        fault_at h.one.file VariableNotAllowedHere m.0,
        record {
          one = with_name h.one m.0;
          reached = m.1;
          variable = v.0;
          defined = v.1;
          names_it = ap (λ z. z.name.text) (sym v.2) ∙ h.names_it ∙ m.2;
          location = h.location;
          read_at = h.read_at;
          variable_known = ap (λ t. is_some (kind_named es t)) (sym (base_alike h.variable.type_ref v.0.type_ref (ap (λ z. z.type_ref) v.2))) ∙ h.variable_known;
          location_known = h.location_known;
          not_allowed = λ a. h.not_allowed (allowed_too v.0 h.variable (sym v.2) a);
          is = refl;
        },
        ap (λ z. z.file) (sym h.is),
        ap (λ z. z.code) (sym h.is),
      )

  each : IsFaultOfOperation x o f → HasLike (IsFaultOfOperation y p) f
  each (not_unique h) = let g = not_unique_too h in (g.0, not_unique g.1, g.2, g.3)
  each (not_of_input_type h) = let g = not_of_input_type_too h in (g.0, not_of_input_type g.1, g.2, g.3)
  each (not_defined h) = let g = not_defined_too h in (g.0, not_defined g.1, g.2, g.3)
  each (not_used h) = let g = not_used_too h in (g.0, not_used g.1, g.2, g.3)
  each (not_allowed h) = let g = not_allowed_too h in (g.0, not_allowed g.1, g.2, g.3)

in_operations : (es : List EntryOf) (os ps : List OperationOf) (fs gs : List FragmentOf) → map erase_operation os ≡ map erase_operation ps → map erase_fragment fs ≡ map erase_fragment gs →
    (f : Fault) → IsVariableFault (record { entries = es; operations = os; fragments = fs }) f → HasLike (IsVariableFault (record { entries = es; operations = ps; fragments = gs })) f
in_operations es os ps fs gs eo ef f h =
    let p = contains erase_operation os ps eo h.operation h.stands in
    let g = each es os ps fs gs ef h.operation p.0 p.2 f h.fault in
    (g.0, record { operation = p.0; stands = p.1; fault = g.1 }, g.2, g.3)

pub variables_alike : PlacesDoNotMatter IsVariableFault
variables_alike x y s f h =
    subst (λ es. HasLike (IsVariableFault (record { entries = es; operations = y.operations; fragments = y.fragments })) f) s.entries
    (in_operations x.entries x.operations y.operations x.fragments y.fragments s.operations s.fragments f h)
