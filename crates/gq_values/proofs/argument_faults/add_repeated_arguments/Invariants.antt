use Rattle.std.proofs.Common.{◌≡◌, ◌++◌, drop, map}
use Rattle.gq_tree.specs.Views.{argument_view}
use Rattle.gq_values.specs.LiteralPlaces.{texts}
use Rattle.gq_values.specs.ArgumentFaults.{argument_names}
use Rattle.gq_values.specs.ArgumentPlaces.{repeated_arguments}
use Rattle.gq_values.proofs.argument_faults.add_repeated_arguments.Given as goal

abbrev pub invariant-loop-argument : goal.invariant-loop-argument
invariant-loop-argument l = record {
  found : l.faults.items ++ repeated_arguments l.file l.names (argument_names (map argument_view (drop l.argument-index l.arguments))) ≡ l.initial.faults.items ++ repeated_arguments l.file l.initial.names (argument_names (map argument_view l.arguments));
  names : l.names ++ texts (argument_names (map argument_view (drop l.argument-index l.arguments))) ≡ l.initial.names ++ texts (argument_names (map argument_view l.arguments));
}
