-- What is told of single entries, and of these with those that belong to them, rule by rule, computed.
use Rattle.std.specs.Prelude.{◌≡◌, ◌++◌, List, length, map}
use Rattle.gq_fault.specs.declared.fault.Fault.{Fault}
use Rattle.gq_types.specs.Entries.{EntryOf}
use Rattle.gq_type_system.specs.declared.each_entry.EntryFaults.{EntryFaults}
use Rattle.gq_type_system.specs.declared.each_entry.GroupFaults.{GroupFaults}
use Rattle.gq_type_system.specs.declared.each_entry.Told.{Told}
use Rattle.gq_type_system.specs.Helping.DefinedTwicePlaces.{all_defined_twice}
use Rattle.gq_type_system.specs.DirectivesAndDefaults.{told}
use Rattle.gq_type_system.specs.Helping.BadExtensionPlaces.{bad_extensions}
use Rattle.gq_type_system.specs.Helping.DirectivesAndDefaultsPlaces.{faults_of_groups, group_faults_of, inner_faults}
use Rattle.gq_type_system.specs.Helping.EmptyOrRepeatedPlaces.{empty_types, repeated_arguments, repeated_parts}
use Rattle.gq_type_system.specs.Helping.ImplementationsPlaces.{bad_implementations}
use Rattle.gq_type_system.specs.Helping.QueryRootPlaces.{no_query_root}
use Rattle.gq_type_system.specs.Helping.ReservedNamePlaces.{reserved_names}
use Rattle.gq_type_system.specs.Helping.RootTypesPlaces.{wrong_roots}
use Rattle.gq_type_system.specs.Helping.UnknownTypePlaces.{unknown_types}
use Rattle.gq_type_system.specs.Helping.WrongKindPlaces.{wrong_kinds}

pub record AreTold (es : List EntryOf) (t : Told) : Type 0 where
  pub defined_twice : t.entries.defined_twice.items ≡ all_defined_twice es
  pub extensions : t.entries.extensions.items ≡ bad_extensions es
  pub reserved : t.entries.reserved.items ≡ reserved_names es
  pub unknown : t.entries.unknown.items ≡ unknown_types es
  pub wrong : t.entries.wrong.items ≡ wrong_kinds es
  pub empty : t.entries.empty.items ≡ empty_types es
  pub arguments : t.entries.arguments.items ≡ repeated_arguments es
  pub inner : t.entries.inner.items ≡ inner_faults es
  pub repeated : t.groups.repeated.items ≡ repeated_parts es
  pub implementations : t.groups.implementations.items ≡ bad_implementations es
  pub outer : t.groups.outer.items ≡ faults_of_groups es

-- of names
abbrev pub names_told : EntryFaults → List Fault
names_told t = t.defined_twice.items ++ (t.extensions.items ++ (t.reserved.items ++ (t.unknown.items ++ t.wrong.items)))

-- of what belongs together
abbrev pub parts_told : List EntryOf → EntryFaults → GroupFaults → List Fault
parts_told es t g =
    wrong_roots es ++ ((t.empty.items ++ (g.repeated.items ++ t.arguments.items))
    ++ (g.implementations.items ++ (no_query_root es ++ map told (t.inner.items ++ (g.outer.items ++ group_faults_of es (length es))))))
