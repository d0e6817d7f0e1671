-- An entry of which nothing is told, alone or with those that belong to it.
use Rattle.std.specs.Prelude.{◌≡◌, false, List, []}
use Rattle.gq_types.specs.BuiltIn.{defines_built_in}
use Rattle.gq_types.specs.Entries.{EntryOf, Numbered}
use Rattle.gq_type_system.specs.declared.each_entry.EntryFaults.{EntryFaults}
use Rattle.gq_type_system.specs.declared.each_entry.GroupFaults.{GroupFaults}
use Rattle.gq_type_system.specs.Helping.BadExtensionPlaces.{bad_extension_at}
use Rattle.gq_type_system.specs.Helping.DefinedTwicePlaces.{defined_twice_at}
use Rattle.gq_type_system.specs.Helping.DirectivesAndDefaultsPlaces.{group_faults_of, inner_faults_at}
use Rattle.gq_type_system.specs.Helping.EmptyOrRepeatedPlaces.{empty_type_at, repeated_arguments_at, repeated_parts_of}
use Rattle.gq_type_system.specs.Helping.ImplementationsPlaces.{bad_implementation_at}
use Rattle.gq_type_system.specs.Helping.ReservedNamePlaces.{reserved_names_at}
use Rattle.gq_type_system.specs.Helping.UnknownTypePlaces.{unknown_types_at}
use Rattle.gq_type_system.specs.Helping.WrongKindPlaces.{wrong_kinds_at}

pub record IsUntoldAlone (es : List EntryOf) (n : Numbered) : Type 0 where
  pub defined_twice : defined_twice_at es n ≡ []
  pub extensions : bad_extension_at es n ≡ []
  pub reserved : reserved_names_at n ≡ []
  pub unknown : unknown_types_at es n ≡ []
  pub wrong : wrong_kinds_at es n ≡ []
  pub empty : empty_type_at es n ≡ []
  pub arguments : repeated_arguments_at n ≡ []
  pub inner : inner_faults_at es n ≡ []

pub record IsUntoldTogether (es : List EntryOf) (n : Numbered) : Type 0 where
  pub repeated : repeated_parts_of es n.number ≡ []
  pub implementations : bad_implementation_at es n ≡ []
  pub outer : group_faults_of es n.number ≡ []

-- an entry that is not judged is looked at only with those that belong to it
pub record IsUntold (es : List EntryOf) (n : Numbered) : Type 0 where
  pub alone : defines_built_in n.entry.definition ≡ false → IsUntoldAlone es n
  pub together : IsUntoldTogether es n

-- lists in which nothing stands
pub record NothingAlone (t : EntryFaults) : Type 0 where
  pub defined_twice : t.defined_twice.items ≡ []
  pub extensions : t.extensions.items ≡ []
  pub reserved : t.reserved.items ≡ []
  pub unknown : t.unknown.items ≡ []
  pub wrong : t.wrong.items ≡ []
  pub empty : t.empty.items ≡ []
  pub arguments : t.arguments.items ≡ []
  pub inner : t.inner.items ≡ []

pub record NothingTogether (t : GroupFaults) : Type 0 where
  pub repeated : t.repeated.items ≡ []
  pub implementations : t.implementations.items ≡ []
  pub outer : t.outer.items ≡ []
