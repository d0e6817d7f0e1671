use Rattle.std.proofs.Common.{◌≡◌, ◌++◌, drop, flat_map}
use Rattle.gq_types.specs.Look.{types_view}
use Rattle.gq_types.specs.Entries.{entries_view, numbered_from}
use Rattle.gq_type_system.specs.Helping.DefinedTwicePlaces.{defined_twice_at, all_defined_twice}
use Rattle.gq_type_system.specs.Helping.BadExtensionPlaces.{bad_extension_at, bad_extensions}
use Rattle.gq_type_system.specs.Helping.DirectivesAndDefaultsPlaces.{faults_of_groups, group_faults_of, inner_faults_at, inner_faults}
use Rattle.gq_type_system.specs.Helping.EmptyOrRepeatedPlaces.{empty_type_at, empty_types, repeated_arguments_at, repeated_arguments, repeated_parts_of, repeated_parts}
use Rattle.gq_type_system.specs.Helping.ImplementationsPlaces.{bad_implementation_at, bad_implementations}
use Rattle.gq_type_system.specs.Helping.ReservedNamePlaces.{reserved_names_at, reserved_names}
use Rattle.gq_type_system.specs.Helping.UnknownTypePlaces.{unknown_types_at, unknown_types}
use Rattle.gq_type_system.specs.Helping.WrongKindPlaces.{wrong_kinds_at, wrong_kinds}
use Rattle.gq_type_system.specs.Helping.Walk.{at_each_number, judged_from}
use Rattle.gq_type_system.proofs.each_entry.look_at_all.Given as goal

-- what is told so far, and what is told of the rest
abbrev pub invariant-loop-number : goal.invariant-loop-number
invariant-loop-number l =
    let es = types_view l.types in
    record {
      defined_twice : l.told.defined_twice.items ++ flat_map (defined_twice_at es) (judged_from l.number (entries_view (drop l.number l.entries)))
          ≡ l.initial.told.defined_twice.items ++ all_defined_twice es;
      extensions : l.told.extensions.items ++ flat_map (bad_extension_at es) (judged_from l.number (entries_view (drop l.number l.entries))) ≡ l.initial.told.extensions.items ++ bad_extensions es;
      reserved : l.told.reserved.items ++ flat_map reserved_names_at (judged_from l.number (entries_view (drop l.number l.entries))) ≡ l.initial.told.reserved.items ++ reserved_names es;
      unknown : l.told.unknown.items ++ flat_map (unknown_types_at es) (judged_from l.number (entries_view (drop l.number l.entries))) ≡ l.initial.told.unknown.items ++ unknown_types es;
      wrong : l.told.wrong.items ++ flat_map (wrong_kinds_at es) (judged_from l.number (entries_view (drop l.number l.entries))) ≡ l.initial.told.wrong.items ++ wrong_kinds es;
      empty : l.told.empty.items ++ flat_map (empty_type_at es) (judged_from l.number (entries_view (drop l.number l.entries))) ≡ l.initial.told.empty.items ++ empty_types es;
      arguments : l.told.arguments.items ++ flat_map repeated_arguments_at (judged_from l.number (entries_view (drop l.number l.entries))) ≡ l.initial.told.arguments.items ++ repeated_arguments es;
      inner : l.told.inner.items ++ flat_map (inner_faults_at es) (judged_from l.number (entries_view (drop l.number l.entries))) ≡ l.initial.told.inner.items ++ inner_faults es;
      repeated : l.groups.repeated.items ++ at_each_number (repeated_parts_of es) l.number (entries_view (drop l.number l.entries)) ≡ l.initial.groups.repeated.items ++ repeated_parts es;
      implementations : l.groups.implementations.items ++ flat_map (bad_implementation_at es) (numbered_from l.number (entries_view (drop l.number l.entries)))
          ≡ l.initial.groups.implementations.items ++ bad_implementations es;
      outer : l.groups.outer.items ++ at_each_number (group_faults_of es) l.number (entries_view (drop l.number l.entries)) ≡ l.initial.groups.outer.items ++ faults_of_groups es;
    }
