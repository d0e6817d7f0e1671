use Rattle.std.proofs.Common.{◌≡◌, ◌++◌, drop}
use Rattle.gq_types.specs.Look.{types_view}
use Rattle.gq_type_system.specs.Helping.DirectivesAndDefaultsPlaces.{inputs_view, default_faults}
use Rattle.gq_type_system.proofs.directives_and_defaults.add_default_faults.Given as goal

abbrev pub invariant-loop-input : goal.invariant-loop-input
invariant-loop-input l = l.faults.items ++ default_faults (types_view l.types) l.file (inputs_view (drop l.input-index l.inputs)) ≡ l.initial.faults.items ++ default_faults (types_view l.types) l.file (inputs_view l.inputs)
