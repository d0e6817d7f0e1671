use Rattle.std.proofs.Common.{◌≡◌, drop, map}
use Rattle.std.specs.List.{list_any}
use Rattle.gq_tree.specs.Views.{def_view}
use Rattle.gq_known.specs.ExecutableDefinitions.{is_executable}
use Rattle.gq_known.proofs.executable_definitions.has_executable.Given as goal

abbrev pub invariant-loop-definition : goal.invariant-loop-definition
invariant-loop-definition l = list_any is_executable (map def_view (drop l.definition-index l.definitions)) ≡ list_any is_executable (map def_view l.definitions)
