use Rattle.std.proofs.Common.{◌≡◌, ◌++◌, drop}
use Rattle.gq_types.specs.Look.{types_view}
use Rattle.gq_type_system.specs.Helping.DirectivesAndDefaultsPlaces.{group_view, group_faults}
use Rattle.gq_type_system.proofs.directives_and_defaults.add_group_faults.Given as goal

abbrev pub invariant-loop-entry : goal.invariant-loop-entry
invariant-loop-entry l = l.faults.items ++ group_faults (types_view l.types) l.before (group_view (drop l.entry-index l.group)) ≡ l.initial.faults.items ++ group_faults (types_view l.types) l.initial.before (group_view l.group)
