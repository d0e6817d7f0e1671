use Rattle.std.proofs.Common.{◌≡◌, ◌++◌, drop}
use Rattle.gq_types.specs.Look.{types_view}
use Rattle.gq_type_system.specs.Helping.Groups.{at_numbers, roots_in_entry, roots_in_view}
use Rattle.gq_type_system.proofs.root_entries.roots_of.Given as goal

abbrev pub invariant-loop-one : goal.invariant-loop-one
invariant-loop-one l = roots_in_view l.roots.items ++ at_numbers roots_in_entry (types_view l.types) (drop l.one-index l.numbers) ≡ at_numbers roots_in_entry (types_view l.types) l.numbers
