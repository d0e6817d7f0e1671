use Rattle.std.proofs.Common.{◌≡◌, drop, map}
use Rattle.gq_tree.specs.Views.{def_view}
use Rattle.gq_known.specs.ExecutableDefinitions.{first_of_type_system}
use Rattle.gq_known.proofs.executable_definitions.first_of_type_system.Given as goal

abbrev pub invariant-loop-definition : goal.invariant-loop-definition
invariant-loop-definition l = first_of_type_system (map def_view (drop l.definition-index l.definitions)) ≡ first_of_type_system (map def_view l.definitions)
