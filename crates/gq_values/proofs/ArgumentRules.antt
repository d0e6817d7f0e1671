-- What is computed of arguments is their faults.
use Rattle.std.proofs.Common.{◌≡◌, ℕ, List, [], ◌∷◌, ◌++◌, inl, inr, ◌↔◌, Contains, refl, sym, subst, Option, Some, None}
use Rattle.std.specs.Option.{option_map_or}
use Rattle.std.proofs.lemmas.List.Elements.{Contains-append_left, Contains-append_right, Contains-append_cases}
use Rattle.gq_text.specs.declared.place.Span.{Span}
use Rattle.gq_tree.specs.Plain.{NameOf, Val, InputOf}
use Rattle.gq_names.specs.Repeats.{repeated}
use Rattle.gq_names.proofs.RepeatLemmas.{contains_none, contains_first, repeated_is}
use Rattle.gq_fault.specs.declared.code.Code.TheVariants.{UnknownArgument, ArgumentNotUnique, ArgumentMissing}
use Rattle.gq_fault.specs.declared.fault.Fault.{Fault}
use Rattle.gq_types.specs.Entries.{EntryOf}
use Rattle.gq_types.specs.Names.{argument_named}
use Rattle.gq_types.specs.Required.{is_any_missing}
use Rattle.gq_fault.specs.FaultPlaces.{fault_at}
use Rattle.gq_values.specs.LiteralPlaces.{texts}
use Rattle.gq_values.specs.ArgumentFaults.{argument_names, argument_at, IsArgumentFault, unknown_argument, argument_not_unique, argument_missing, fault_in_value}
use Rattle.gq_values.specs.ArgumentPlaces.{repeated_arguments, unknown_argument_at, unknown_arguments, missing_among, known_faults, value_faults_under, value_faults_of, argument_value_faults, argument_faults}
use Rattle.gq_values.proofs.LiteralRules.{from_any_missing, to_any_missing, literal_faults_are}
use Rattle.gq_types.proofs.Gathered.{only, from_if, to_if, from_flat, to_flat, from_map_as as from_map, to_map_as as to_map}

module _ (es : List EntryOf) (file : ℕ) (name : NameOf Span) (arguments : List (Val Span)) (item : Fault) where
  unknown_is : (definitions : Option (List (InputOf Span))) (known : List (InputOf Span)) → definitions ≡ Some known → Contains (unknown_arguments file known (argument_names arguments)) item →
      IsArgumentFault es file definitions name arguments item
  unknown_is definitions known is found =
      let one = from_flat (unknown_argument_at file known) (argument_names arguments) item found in
      by_input one.0 one.1 (argument_named known one.0.text) refl one.2
    where
      by_input : (argument : NameOf Span) → Contains (argument_names arguments) argument → (o : Option (InputOf Span)) → argument_named known argument.text ≡ o →
          Contains (option_map_or (λ i. []) o (fault_at file UnknownArgument argument ∷ [])) item → IsArgumentFault es file definitions name arguments item
      by_input argument stands None not_known told = unknown_argument is stands not_known (only (fault_at file UnknownArgument argument) item told)
      by_input argument stands (Some i) not_known told = absurd (contains_none item told)

  missing_is : (definitions : Option (List (InputOf Span))) (known : List (InputOf Span)) → definitions ≡ Some known → Contains (missing_among file known (texts (argument_names arguments)) name) item →
      IsArgumentFault es file definitions name arguments item
  missing_is definitions known is found =
      let told = from_if (is_any_missing known (texts (argument_names arguments))) (fault_at file ArgumentMissing name) item found in
      let one = from_any_missing known (argument_names arguments) told.0 in
      argument_missing is one.2 one.3 one.4 told.1

  known_is : (definitions : Option (List (InputOf Span))) → Contains (known_faults file definitions name (argument_names arguments)) item → IsArgumentFault es file definitions name arguments item
  known_is None found = absurd (contains_none item found)
  known_is (Some known) found =
      elim (Contains-append_cases (unknown_arguments file known (argument_names arguments)) (missing_among file known (texts (argument_names arguments)) name) item found) [
        | inl unknown ↦ unknown_is (Some known) known refl unknown
        | inr missing ↦ missing_is (Some known) known refl missing
      ]

  value_is : (definitions : Option (List (InputOf Span))) → Contains (argument_value_faults es file definitions arguments) item → IsArgumentFault es file definitions name arguments item
  value_is definitions found =
      let one = from_flat (value_faults_of es file definitions) arguments item found in
      by_key one.0 one.1 one.0.label.key refl one.2
    where
      by_key : (argument : Val Span) → Contains arguments argument → (o : Option (NameOf Span)) → argument.label.key ≡ o → Contains (value_faults_under es file definitions argument o) item →
          IsArgumentFault es file definitions name arguments item
      by_key argument stands None is told = absurd (contains_none item told)
      by_key argument stands (Some key) is told = fault_in_value stands is ((literal_faults_are es file item (argument_at definitions key.text) argument).0 told)

  from_arguments : (definitions : Option (List (InputOf Span))) → Contains (argument_faults es file definitions name arguments) item → IsArgumentFault es file definitions name arguments item
  from_arguments definitions found =
      elim (Contains-append_cases (repeated_arguments file [] (argument_names arguments)) (known_faults file definitions name (argument_names arguments) ++ argument_value_faults es file definitions arguments) item found) [
        | inl again ↦ (let one = from_map (fault_at file ArgumentNotUnique) (repeated (λ n. n.text) (argument_names arguments)) item again in
            argument_not_unique ((repeated_is (λ n. n.text) (argument_names arguments) one.0).0 one.1) one.2)
        | inr rest ↦ elim (Contains-append_cases (known_faults file definitions name (argument_names arguments)) (argument_value_faults es file definitions arguments) item rest) [
          | inl known ↦ known_is definitions known
          | inr value ↦ value_is definitions value
        ]
      ]

  -- where a fault stands among those of arguments
  in_known : (definitions : Option (List (InputOf Span))) → Contains (known_faults file definitions name (argument_names arguments)) item → Contains (argument_faults es file definitions name arguments) item
  in_known definitions found =
      Contains-append_right (repeated_arguments file [] (argument_names arguments)) (known_faults file definitions name (argument_names arguments) ++ argument_value_faults es file definitions arguments) item
      (Contains-append_left (known_faults file definitions name (argument_names arguments)) (argument_value_faults es file definitions arguments) item found)

  to_arguments : {definitions : Option (List (InputOf Span))} → IsArgumentFault es file definitions name arguments item → Contains (argument_faults es file definitions name arguments) item
  to_arguments {definitions} (unknown_argument {known} {argument} is stands not_known told) =
      let one = subst (λ o. Contains (option_map_or (λ (i : InputOf Span). []) o (fault_at file UnknownArgument argument ∷ [])) item) (sym not_known) (contains_first (fault_at file UnknownArgument argument) [] item (sym told)) in
      let all = to_flat (unknown_argument_at file known) (argument_names arguments) argument item stands one in
      in_known definitions (subst (λ o. Contains (known_faults file o name (argument_names arguments)) item) (sym is)
      (Contains-append_left (unknown_arguments file known (argument_names arguments)) (missing_among file known (texts (argument_names arguments)) name) item all))
  to_arguments {definitions} (argument_not_unique {argument} again told) =
      let found = to_map (fault_at file ArgumentNotUnique) (repeated (λ n. n.text) (argument_names arguments)) argument item ((repeated_is (λ n. n.text) (argument_names arguments) argument).1 again) told in
      Contains-append_left (repeated_arguments file [] (argument_names arguments)) (known_faults file definitions name (argument_names arguments) ++ argument_value_faults es file definitions arguments) item found
  to_arguments {definitions} (argument_missing {known} {text} {i} is defined required absent told) =
      let all = to_if (is_any_missing known (texts (argument_names arguments))) (fault_at file ArgumentMissing name) item (to_any_missing known text (argument_names arguments) i defined required absent) told in
      in_known definitions (subst (λ o. Contains (known_faults file o name (argument_names arguments)) item) (sym is)
      (Contains-append_right (unknown_arguments file known (argument_names arguments)) (missing_among file known (texts (argument_names arguments)) name) item all))
  to_arguments {definitions} (fault_in_value {argument} {key} stands is fault) =
      let one = subst (λ o. Contains (value_faults_under es file definitions argument o) item) (sym is) ((literal_faults_are es file item (argument_at definitions key.text) argument).1 fault) in
      let all = to_flat (value_faults_of es file definitions) arguments argument item stands one in
      Contains-append_right (repeated_arguments file [] (argument_names arguments)) (known_faults file definitions name (argument_names arguments) ++ argument_value_faults es file definitions arguments) item
      (Contains-append_right (known_faults file definitions name (argument_names arguments)) (argument_value_faults es file definitions arguments) item all)

  -- what is told of arguments is what is wrong with them
  pub argument_faults_are : (definitions : Option (List (InputOf Span))) → Contains (argument_faults es file definitions name arguments) item ↔ IsArgumentFault es file definitions name arguments item
  argument_faults_are definitions = (from_arguments definitions, λ fault. to_arguments fault)
