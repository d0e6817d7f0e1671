-- What is wrong with a type system: each fault that a rule demands, one case a rule (section 3).
use Rattle.std.specs.Prelude.{List}
use Rattle.gq_fault.specs.declared.fault.Fault.{Fault}
use Rattle.gq_types.specs.Entries.{EntryOf}
use Rattle.gq_type_system.specs.DefinedTwice.{IsDefinedTwice}
use Rattle.gq_type_system.specs.BadExtension.{IsBadExtension}
use Rattle.gq_type_system.specs.ReservedName.{IsReservedName}
use Rattle.gq_type_system.specs.UnknownType.{IsUnknownType}
use Rattle.gq_type_system.specs.WrongKind.{IsWrongKind}
use Rattle.gq_type_system.specs.RootTypes.{IsRepeatedRoot, IsNoObject, IsSharedRoot}
use Rattle.gq_type_system.specs.DirectivesAndDefaults.{IsBadDirectiveOrDefault}
use Rattle.gq_type_system.specs.EmptyOrRepeated.{IsEmptyType, IsRepeatedPart, IsRepeatedArgument}
use Rattle.gq_type_system.specs.Implementations.{IsBadImplementation}
use Rattle.gq_type_system.specs.EndlessInputs.{IsEndlessInput}
use Rattle.gq_type_system.specs.QueryRoot.{HasNoQueryRoot}

pub data IsSchemaFault (es : List EntryOf) (fault : Fault) : Type 0 where
  defined_twice : IsDefinedTwice es fault → IsSchemaFault es fault
  bad_extension : IsBadExtension es fault → IsSchemaFault es fault
  reserved_name : IsReservedName es fault → IsSchemaFault es fault
  unknown_type : IsUnknownType es fault → IsSchemaFault es fault
  wrong_kind : IsWrongKind es fault → IsSchemaFault es fault
  repeated_root : IsRepeatedRoot es fault → IsSchemaFault es fault
  no_object : IsNoObject es fault → IsSchemaFault es fault
  shared_root : IsSharedRoot es fault → IsSchemaFault es fault
  empty_type : IsEmptyType es fault → IsSchemaFault es fault
  repeated_part : IsRepeatedPart es fault → IsSchemaFault es fault
  repeated_argument : IsRepeatedArgument es fault → IsSchemaFault es fault
  bad_implementation : IsBadImplementation es fault → IsSchemaFault es fault
  endless_input : IsEndlessInput es fault → IsSchemaFault es fault
  no_query_root : HasNoQueryRoot es fault → IsSchemaFault es fault
  bad_directive_or_default : IsBadDirectiveOrDefault es fault → IsSchemaFault es fault
