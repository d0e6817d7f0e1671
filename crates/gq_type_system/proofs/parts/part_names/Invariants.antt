use Rattle.std.proofs.Common.{◌≡◌, ◌++◌, drop}
use Rattle.gq_types.specs.Look.{types_view}
use Rattle.gq_type_system.specs.Helping.Groups.{at_numbers, part_names_in, names_in}
use Rattle.gq_type_system.proofs.parts.part_names.Given as goal

abbrev pub invariant-loop-one : goal.invariant-loop-one
invariant-loop-one l = names_in l.names.items ++ at_numbers (part_names_in l.part) (types_view l.types) (drop l.one-index l.numbers) ≡ at_numbers (part_names_in l.part) (types_view l.types) l.numbers
