-- What is computed of directives is their faults.
use Rattle.std.proofs.Common.{◌≡◌, ℕ, Bool, true, false, if◌then◌else◌, List, [], ◌∷◌, inl, inr, ◌↔◌, Contains, refl, sym, ap, subst, ◌∙◌, Option, Some, None}
use Rattle.std.specs.Option.{option_map_or}
use Rattle.std.specs.List.{list_any}
use Rattle.std.proofs.lemmas.List.Elements.{Contains-append_left, Contains-append_right, Contains-append_cases}
use Rattle.gq_text.specs.declared.place.Span.{Span}
use Rattle.gq_tree.specs.declared.type_system.DirectiveLocation.{DirectiveLocation}
use Rattle.gq_tree.specs.Plain.{DirectiveOf, TypeSystemOf}
use Rattle.gq_tree.specs.Same.{same_locations}
use Rattle.gq_names.specs.Repeats.{repeated_after, IsRepeatedAfter}
use Rattle.gq_names.proofs.RepeatLemmas.{contains_none, contains_first, repeated_after_is}
use Rattle.gq_fault.specs.declared.code.Code.TheVariants.{UnknownDirective, DirectiveInWrongPlace, DirectiveRepeated}
use Rattle.gq_fault.specs.declared.fault.Fault.{Fault}
use Rattle.gq_types.specs.Entries.{Text, EntryOf}
use Rattle.gq_types.specs.Names.{directive_named}
use Rattle.gq_fault.specs.FaultPlaces.{fault_at}
use Rattle.gq_values.specs.ArgumentPlaces.{argument_faults}
use Rattle.gq_types.specs.Arguments.{directive_arguments}
use Rattle.gq_types.specs.Directives.{locations_in}
use Rattle.gq_values.specs.DirectiveFaults.{is_repeatable, IsDirectiveFault, unknown_directive, directive_in_wrong_place, directive_repeated, fault_in_arguments}
use Rattle.gq_values.specs.DirectivePlaces.{place_faults, faults_of_directive, faults_of_directives, repetition_at, repetitions, directive_faults}
use Rattle.gq_values.proofs.ArgumentRules.{argument_faults_are}
use Rattle.gq_types.proofs.Gathered.{only, from_flat, to_flat}

module _ (es : List EntryOf) (file : ℕ) (location : DirectiveLocation) (before : List Text) (directives : List (DirectiveOf Span)) (item : Fault) where
  place_is : (d : DirectiveOf Span) → Contains directives d → (o : Option (TypeSystemOf Span)) → directive_named es d.name.text ≡ o → Contains (place_faults file location d.name o) item →
      IsDirectiveFault es file location before directives item
  place_is d stands None is found = unknown_directive stands is (only (fault_at file UnknownDirective d.name) item found)
  place_is d stands (Some definition) is found = by_location (list_any (same_locations location) (locations_in definition)) refl found
    where
      by_location : (b : Bool) → list_any (same_locations location) (locations_in definition) ≡ b → Contains (if b then [] else fault_at file DirectiveInWrongPlace d.name ∷ []) item →
          IsDirectiveFault es file location before directives item
      by_location true may told = absurd (contains_none item told)
      by_location false may told = directive_in_wrong_place stands is may (only (fault_at file DirectiveInWrongPlace d.name) item told)

  one_is : Contains (faults_of_directives es file location directives) item → IsDirectiveFault es file location before directives item
  one_is found =
      let one = from_flat (faults_of_directive es file location) directives item found in
      elim (Contains-append_cases (place_faults file location one.0.name (directive_named es one.0.name.text)) (argument_faults es file (directive_arguments es one.0.name.text) one.0.name one.0.arguments) item one.2) [
        | inl place ↦ place_is one.0 one.1 (directive_named es one.0.name.text) refl place
        | inr argument ↦ fault_in_arguments one.1 ((argument_faults_are es file one.0.name one.0.arguments item (directive_arguments es one.0.name.text)).0 argument)
      ]

  repetition_is : Contains (repetitions es file before directives) item → IsDirectiveFault es file location before directives item
  repetition_is found =
      let one = from_flat (repetition_at es file) (repeated_after (λ d. d.name.text) before directives) item found in
      by_definition one.0 ((repeated_after_is (λ (d : DirectiveOf Span). d.name.text) before directives one.0).0 one.1) (directive_named es one.0.name.text) refl one.2
    where
      by_repeatable : (d : DirectiveOf Span) → IsRepeatedAfter (λ d. d.name.text) before directives d → (definition : TypeSystemOf Span) → directive_named es d.name.text ≡ Some definition →
          (b : Bool) → is_repeatable definition ≡ b → Contains (if b then [] else fault_at file DirectiveRepeated d.name ∷ []) item → IsDirectiveFault es file location before directives item
      by_repeatable d again definition is true may told = absurd (contains_none item told)
      by_repeatable d again definition is false may told = directive_repeated again is may (only (fault_at file DirectiveRepeated d.name) item told)

      by_definition : (d : DirectiveOf Span) → IsRepeatedAfter (λ d. d.name.text) before directives d → (o : Option (TypeSystemOf Span)) → directive_named es d.name.text ≡ o →
          Contains (if option_map_or is_repeatable o true then [] else fault_at file DirectiveRepeated d.name ∷ []) item → IsDirectiveFault es file location before directives item
      by_definition d again None is told = absurd (contains_none item told)
      by_definition d again (Some definition) is told = by_repeatable d again definition is (is_repeatable definition) refl told

  from_directives : Contains (directive_faults es file location before directives) item → IsDirectiveFault es file location before directives item
  from_directives found = elim (Contains-append_cases (faults_of_directives es file location directives) (repetitions es file before directives) item found) [
    | inl one ↦ one_is one
    | inr again ↦ repetition_is again
  ]

  -- a fault of one directive is among those of all
  among : (d : DirectiveOf Span) → Contains directives d → Contains (faults_of_directive es file location d) item → Contains (directive_faults es file location before directives) item
  among d stands found =
      Contains-append_left (faults_of_directives es file location directives) (repetitions es file before directives) item (to_flat (faults_of_directive es file location) directives d item stands found)

  at_place : (d : DirectiveOf Span) → Contains directives d → Contains (place_faults file location d.name (directive_named es d.name.text)) item → Contains (directive_faults es file location before directives) item
  at_place d stands found = among d stands
      (Contains-append_left (place_faults file location d.name (directive_named es d.name.text)) (argument_faults es file (directive_arguments es d.name.text) d.name d.arguments) item found)

  to_directives : IsDirectiveFault es file location before directives item → Contains (directive_faults es file location before directives) item
  to_directives (unknown_directive {d} stands is told) =
      at_place d stands (subst (λ o. Contains (place_faults file location d.name o) item) (sym is) (contains_first (fault_at file UnknownDirective d.name) [] item (sym told)))
  to_directives (directive_in_wrong_place {d} {definition} stands is may told) =
      at_place d stands (subst (λ o. Contains (place_faults file location d.name o) item) (sym is)
      (subst (λ b. Contains (if b then [] else fault_at file DirectiveInWrongPlace d.name ∷ []) item) (sym may) (contains_first (fault_at file DirectiveInWrongPlace d.name) [] item (sym told))))
  to_directives (directive_repeated {d} {definition} again is may told) =
      let may_not = ap (λ o. option_map_or is_repeatable o true) is ∙ may in
      let one = subst (λ b. Contains (if b then [] else fault_at file DirectiveRepeated d.name ∷ []) item) (sym may_not) (contains_first (fault_at file DirectiveRepeated d.name) [] item (sym told)) in
      Contains-append_right (faults_of_directives es file location directives) (repetitions es file before directives) item
      (to_flat (repetition_at es file) (repeated_after (λ d. d.name.text) before directives) d item ((repeated_after_is (λ (d : DirectiveOf Span). d.name.text) before directives d).1 again) one)
  to_directives (fault_in_arguments {d} stands fault) = among d stands
      (Contains-append_right (place_faults file location d.name (directive_named es d.name.text)) (argument_faults es file (directive_arguments es d.name.text) d.name d.arguments) item
      ((argument_faults_are es file d.name d.arguments item (directive_arguments es d.name.text)).1 fault))

  -- what is told of directives is what is wrong with them
  pub directive_faults_are : Contains (directive_faults es file location before directives) item ↔ IsDirectiveFault es file location before directives item
  directive_faults_are = (from_directives, to_directives)
