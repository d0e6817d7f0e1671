use Rattle.std.proofs.Common.{◌≡◌, ◌++◌, drop}
use Rattle.gq_types.specs.Look.{types_view}
use Rattle.gq_type_system.specs.Helping.Groups.{at_numbers}
use Rattle.gq_type_system.specs.Helping.DirectivesAndDefaultsPlaces.{itself, group_view}
use Rattle.gq_type_system.proofs.directives_and_defaults.group_of.Given as goal

abbrev pub invariant-loop-one : goal.invariant-loop-one
invariant-loop-one l = group_view l.group.items ++ at_numbers itself (types_view l.types) (drop l.one-index l.numbers) ≡ at_numbers itself (types_view l.types) l.numbers
