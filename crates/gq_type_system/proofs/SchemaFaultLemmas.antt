-- What the rules put is what is wrong.
use Rattle.std.proofs.Common.{◌≡◌, List, ◌++◌, Contains, subst, sym, ap, ◌∙◌, ⊎_elim, inl, inr, ◌↔◌, ◌⊎◌}
use Rattle.std.proofs.lemmas.List.Elements.{Contains-append_left, Contains-append_right, Contains-append_cases}
use Rattle.gq_fault.specs.declared.fault.Fault.{Fault}
use Rattle.gq_types.specs.Entries.{EntryOf}
use Rattle.gq_fault.specs.Adds.{AddsExactly}
use Rattle.gq_type_system.specs.Helping.DefinedTwicePlaces.{all_defined_twice}
use Rattle.gq_type_system.specs.Helping.BadExtensionPlaces.{bad_extensions}
use Rattle.gq_type_system.specs.Helping.ReservedNamePlaces.{reserved_names}
use Rattle.gq_type_system.specs.Helping.UnknownTypePlaces.{unknown_types}
use Rattle.gq_type_system.specs.Helping.WrongKindPlaces.{wrong_kinds}
use Rattle.gq_type_system.specs.Helping.RootTypesPlaces.{wrong_roots}
use Rattle.gq_type_system.specs.RootTypes.{IsRepeatedRoot, IsNoObject, IsSharedRoot}
use Rattle.gq_type_system.specs.Helping.DirectivesAndDefaultsPlaces.{bad_directives_and_defaults}
use Rattle.gq_type_system.specs.Helping.EmptyOrRepeatedPlaces.{empty_or_repeated}
use Rattle.gq_type_system.specs.EmptyOrRepeated.{IsEmptyType, IsRepeatedPart, IsRepeatedArgument}
use Rattle.gq_type_system.specs.Helping.ImplementationsPlaces.{bad_implementations}
use Rattle.gq_type_system.specs.Helping.QueryRootPlaces.{no_query_root}
use Rattle.gq_type_system.specs.EndlessInputs.{IsEndlessInput}
use Rattle.gq_type_system.specs.SchemaFaults.{IsSchemaFault, defined_twice, bad_extension, reserved_name, unknown_type, wrong_kind, repeated_root, no_object, shared_root, empty_type, repeated_part, repeated_argument, bad_implementation, endless_input, bad_directive_or_default}
use Rattle.gq_type_system.specs.SchemaFaults as fault
use Rattle.gq_type_system.specs.Helping.SchemaFaultsPlaces.{name_faults, part_faults}
use Rattle.gq_type_system.proofs.DefinedTwiceLemmas.{all_defined_twice_are}
use Rattle.gq_type_system.proofs.BadExtensionLemmas.{bad_extensions_are}
use Rattle.gq_type_system.proofs.ReservedNameLemmas.{reserved_names_are}
use Rattle.gq_type_system.proofs.UnknownTypeLemmas.{unknown_types_are}
use Rattle.gq_type_system.proofs.WrongKindLemmas.{wrong_kinds_are}
use Rattle.gq_type_system.proofs.RootTypeLemmas.{wrong_roots_are}
use Rattle.gq_type_system.proofs.DirectivesAndDefaultsLemmas.{bad_directives_and_defaults_are}
use Rattle.gq_type_system.proofs.EmptyOrRepeatedLemmas.{empty_or_repeated_are}
use Rattle.gq_type_system.proofs.ImplementationLemmas.{bad_implementations_are}
use Rattle.gq_type_system.proofs.QueryRootLemmas.{no_query_root_is}

module _ (es : List EntryOf) (item : Fault) where
  root_fault : IsRepeatedRoot es item ⊎ (IsNoObject es item ⊎ IsSharedRoot es item) → IsSchemaFault es item
  root_fault w = ⊎_elim repeated_root (λ v. ⊎_elim no_object shared_root v) w

  part_fault : IsEmptyType es item ⊎ (IsRepeatedPart es item ⊎ IsRepeatedArgument es item) → IsSchemaFault es item
  part_fault w = ⊎_elim empty_type (λ v. ⊎_elim repeated_part repeated_argument v) w

  from_names : Contains (name_faults es) item → IsSchemaFault es item
  from_names c =
      ⊎_elim (λ a. defined_twice ((all_defined_twice_are es item).0 a))
      (λ b. ⊎_elim (λ a. bad_extension ((bad_extensions_are es item).0 a))
      (λ b. ⊎_elim (λ a. reserved_name ((reserved_names_are es item).0 a))
      (λ b. ⊎_elim (λ a. unknown_type ((unknown_types_are es item).0 a))
      (λ b. wrong_kind ((wrong_kinds_are es item).0 b))
      (Contains-append_cases (unknown_types es) (wrong_kinds es) item b))
      (Contains-append_cases (reserved_names es) (unknown_types es ++ wrong_kinds es) item b))
      (Contains-append_cases (bad_extensions es) (reserved_names es ++ (unknown_types es ++ wrong_kinds es)) item b))
      (Contains-append_cases (all_defined_twice es) (bad_extensions es ++ (reserved_names es ++ (unknown_types es ++ wrong_kinds es))) item c)

  from_parts : Contains (part_faults es) item → IsSchemaFault es item
  from_parts c =
      ⊎_elim (λ a. root_fault ((wrong_roots_are es item).0 a))
      (λ b. ⊎_elim (λ a. part_fault ((empty_or_repeated_are es item).0 a))
      (λ b. ⊎_elim (λ a. bad_implementation ((bad_implementations_are es item).0 a))
      (λ b. ⊎_elim (λ a. fault.no_query_root ((no_query_root_is es item).0 a))
      (λ b. bad_directive_or_default ((bad_directives_and_defaults_are es item).0 b))
      (Contains-append_cases (no_query_root es) (bad_directives_and_defaults es) item b))
      (Contains-append_cases (bad_implementations es) (no_query_root es ++ bad_directives_and_defaults es) item b))
      (Contains-append_cases (empty_or_repeated es) (bad_implementations es ++ (no_query_root es ++ bad_directives_and_defaults es)) item b))
      (Contains-append_cases (wrong_roots es) (empty_or_repeated es ++ (bad_implementations es ++ (no_query_root es ++ bad_directives_and_defaults es))) item c)

  -- each list stands in the whole one
  in_names_all_defined_twice : Contains (all_defined_twice es) item → Contains (name_faults es) item
  in_names_all_defined_twice c = (Contains-append_left (all_defined_twice es) (bad_extensions es ++ (reserved_names es ++ (unknown_types es ++ wrong_kinds es))) item c)

  in_names_bad_extensions : Contains (bad_extensions es) item → Contains (name_faults es) item
  in_names_bad_extensions c = (Contains-append_right (all_defined_twice es) (bad_extensions es ++ (reserved_names es ++ (unknown_types es ++ wrong_kinds es))) item (Contains-append_left (bad_extensions es) (reserved_names es ++ (unknown_types es ++ wrong_kinds es)) item c))

  in_names_reserved_names : Contains (reserved_names es) item → Contains (name_faults es) item
  in_names_reserved_names c = (Contains-append_right (all_defined_twice es) (bad_extensions es ++ (reserved_names es ++ (unknown_types es ++ wrong_kinds es))) item (Contains-append_right (bad_extensions es) (reserved_names es ++ (unknown_types es ++ wrong_kinds es)) item (Contains-append_left (reserved_names es) (unknown_types es ++ wrong_kinds es) item c)))

  in_names_unknown_types : Contains (unknown_types es) item → Contains (name_faults es) item
  in_names_unknown_types c = (Contains-append_right (all_defined_twice es) (bad_extensions es ++ (reserved_names es ++ (unknown_types es ++ wrong_kinds es))) item (Contains-append_right (bad_extensions es) (reserved_names es ++ (unknown_types es ++ wrong_kinds es)) item (Contains-append_right (reserved_names es) (unknown_types es ++ wrong_kinds es) item (Contains-append_left (unknown_types es) (wrong_kinds es) item c))))

  in_names_wrong_kinds : Contains (wrong_kinds es) item → Contains (name_faults es) item
  in_names_wrong_kinds c = (Contains-append_right (all_defined_twice es) (bad_extensions es ++ (reserved_names es ++ (unknown_types es ++ wrong_kinds es))) item (Contains-append_right (bad_extensions es) (reserved_names es ++ (unknown_types es ++ wrong_kinds es)) item (Contains-append_right (reserved_names es) (unknown_types es ++ wrong_kinds es) item (Contains-append_right (unknown_types es) (wrong_kinds es) item c))))

  in_parts_wrong_roots : Contains (wrong_roots es) item → Contains (part_faults es) item
  in_parts_wrong_roots c = (Contains-append_left (wrong_roots es) (empty_or_repeated es ++ (bad_implementations es ++ (no_query_root es ++ bad_directives_and_defaults es))) item c)

  in_parts_empty_or_repeated : Contains (empty_or_repeated es) item → Contains (part_faults es) item
  in_parts_empty_or_repeated c = (Contains-append_right (wrong_roots es) (empty_or_repeated es ++ (bad_implementations es ++ (no_query_root es ++ bad_directives_and_defaults es))) item (Contains-append_left (empty_or_repeated es) (bad_implementations es ++ (no_query_root es ++ bad_directives_and_defaults es)) item c))

  in_parts_bad_implementations : Contains (bad_implementations es) item → Contains (part_faults es) item
  in_parts_bad_implementations c = (Contains-append_right (wrong_roots es) (empty_or_repeated es ++ (bad_implementations es ++ (no_query_root es ++ bad_directives_and_defaults es))) item (Contains-append_right (empty_or_repeated es) (bad_implementations es ++ (no_query_root es ++ bad_directives_and_defaults es)) item (Contains-append_left (bad_implementations es) (no_query_root es ++ bad_directives_and_defaults es) item c)))

  in_parts_no_query_root : Contains (no_query_root es) item → Contains (part_faults es) item
  in_parts_no_query_root c = (Contains-append_right (wrong_roots es) (empty_or_repeated es ++ (bad_implementations es ++ (no_query_root es ++ bad_directives_and_defaults es))) item (Contains-append_right (empty_or_repeated es) (bad_implementations es ++ (no_query_root es ++ bad_directives_and_defaults es)) item (Contains-append_right (bad_implementations es) (no_query_root es ++ bad_directives_and_defaults es) item (Contains-append_left (no_query_root es) (bad_directives_and_defaults es) item c))))

  in_parts_bad_directives_and_defaults : Contains (bad_directives_and_defaults es) item → Contains (part_faults es) item
  in_parts_bad_directives_and_defaults c = (Contains-append_right (wrong_roots es) (empty_or_repeated es ++ (bad_implementations es ++ (no_query_root es ++ bad_directives_and_defaults es))) item (Contains-append_right (empty_or_repeated es) (bad_implementations es ++ (no_query_root es ++ bad_directives_and_defaults es)) item (Contains-append_right (bad_implementations es) (no_query_root es ++ bad_directives_and_defaults es) item (Contains-append_right (no_query_root es) (bad_directives_and_defaults es) item c))))

  module _ (added : List Fault) (exactly : Contains added item ↔ IsEndlessInput es item) where
    of_names : Contains (name_faults es) item → Contains ((name_faults es ++ part_faults es) ++ added) item
    of_names c = Contains-append_left (name_faults es ++ part_faults es) added item (Contains-append_left (name_faults es) (part_faults es) item c)

    of_parts : Contains (part_faults es) item → Contains ((name_faults es ++ part_faults es) ++ added) item
    of_parts c = Contains-append_left (name_faults es ++ part_faults es) added item (Contains-append_right (name_faults es) (part_faults es) item c)

    from_all : Contains ((name_faults es ++ part_faults es) ++ added) item → IsSchemaFault es item
    from_all c =
        ⊎_elim (λ a. ⊎_elim from_names from_parts (Contains-append_cases (name_faults es) (part_faults es) item a))
        (λ b. endless_input (exactly.0 b))
        (Contains-append_cases (name_faults es ++ part_faults es) added item c)

    to_all : IsSchemaFault es item → Contains ((name_faults es ++ part_faults es) ++ added) item
    to_all (defined_twice w) = of_names (in_names_all_defined_twice ((all_defined_twice_are es item).1 w))
    to_all (bad_extension w) = of_names (in_names_bad_extensions ((bad_extensions_are es item).1 w))
    to_all (reserved_name w) = of_names (in_names_reserved_names ((reserved_names_are es item).1 w))
    to_all (unknown_type w) = of_names (in_names_unknown_types ((unknown_types_are es item).1 w))
    to_all (wrong_kind w) = of_names (in_names_wrong_kinds ((wrong_kinds_are es item).1 w))
    to_all (repeated_root w) = of_parts (in_parts_wrong_roots ((wrong_roots_are es item).1 (inl w)))
    to_all (no_object w) = of_parts (in_parts_wrong_roots ((wrong_roots_are es item).1 (inr (inl w))))
    to_all (shared_root w) = of_parts (in_parts_wrong_roots ((wrong_roots_are es item).1 (inr (inr w))))
    to_all (empty_type w) = of_parts (in_parts_empty_or_repeated ((empty_or_repeated_are es item).1 (inl w)))
    to_all (repeated_part w) = of_parts (in_parts_empty_or_repeated ((empty_or_repeated_are es item).1 (inr (inl w))))
    to_all (repeated_argument w) = of_parts (in_parts_empty_or_repeated ((empty_or_repeated_are es item).1 (inr (inr w))))
    to_all (bad_implementation w) = of_parts (in_parts_bad_implementations ((bad_implementations_are es item).1 w))
    to_all (endless_input w) = Contains-append_right (name_faults es ++ part_faults es) added item (exactly.1 w)
    to_all (bad_directive_or_default w) = of_parts (in_parts_bad_directives_and_defaults ((bad_directives_and_defaults_are es item).1 w))
    to_all (fault.no_query_root w) = of_parts (in_parts_no_query_root ((no_query_root_is es item).1 w))

-- what was put behind the lists is exactly what is wrong
pub faults_are : (es : List EntryOf) (old new : List Fault) → old ≡ name_faults es ++ part_faults es → AddsExactly (IsEndlessInput es) old new →
    (item : Fault) → Contains new item ↔ IsSchemaFault es item
faults_are es old new lists puts item =
    let whole : new ≡ (name_faults es ++ part_faults es) ++ puts.added = puts.is ∙ ap (λ xs. xs ++ puts.added) lists in
    subst (λ xs. Contains xs item ↔ IsSchemaFault es item) (sym whole) (from_all es item puts.added (puts.exactly item), to_all es item puts.added (puts.exactly item))
