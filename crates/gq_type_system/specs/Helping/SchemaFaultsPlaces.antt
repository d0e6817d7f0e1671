-- What the rules put, one after the other, computed.
use Rattle.std.specs.Prelude.{List, ◌++◌}
use Rattle.gq_fault.specs.declared.fault.Fault.{Fault}
use Rattle.gq_types.specs.Entries.{EntryOf}
use Rattle.gq_type_system.specs.Helping.DefinedTwicePlaces.{all_defined_twice}
use Rattle.gq_type_system.specs.Helping.BadExtensionPlaces.{bad_extensions}
use Rattle.gq_type_system.specs.Helping.ReservedNamePlaces.{reserved_names}
use Rattle.gq_type_system.specs.Helping.UnknownTypePlaces.{unknown_types}
use Rattle.gq_type_system.specs.Helping.WrongKindPlaces.{wrong_kinds}
use Rattle.gq_type_system.specs.Helping.RootTypesPlaces.{wrong_roots}
use Rattle.gq_type_system.specs.Helping.DirectivesAndDefaultsPlaces.{bad_directives_and_defaults}
use Rattle.gq_type_system.specs.Helping.EmptyOrRepeatedPlaces.{empty_or_repeated}
use Rattle.gq_type_system.specs.Helping.ImplementationsPlaces.{bad_implementations}
use Rattle.gq_type_system.specs.Helping.QueryRootPlaces.{no_query_root}

-- of names
abbrev pub name_faults : List EntryOf → List Fault
name_faults es = all_defined_twice es ++ (bad_extensions es ++ (reserved_names es ++ (unknown_types es ++ wrong_kinds es)))

-- of what belongs together
abbrev pub part_faults : List EntryOf → List Fault
part_faults es = wrong_roots es ++ (empty_or_repeated es ++ (bad_implementations es ++ (no_query_root es ++ bad_directives_and_defaults es)))
