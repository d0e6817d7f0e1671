use Rattle.std.proofs.Common.{◌≡◌, ◌++◌, drop, map}
use Rattle.gq_tree.specs.Plain.{erase_values}
use Rattle.gq_tree.specs.Views.{argument_view}
use Rattle.gq_coerce.specs.Helping.Views.{part_view}
use Rattle.gq_coerce.proofs.parts.parts_of_arguments.Given as goal

abbrev pub invariant-loop-argument : goal.invariant-loop-argument
invariant-loop-argument l = map part_view l.parts.items ++ erase_values (map argument_view (drop l.argument-index l.arguments)) ≡ erase_values (map argument_view l.arguments)
