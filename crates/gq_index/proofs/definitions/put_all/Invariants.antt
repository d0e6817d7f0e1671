use Rattle.std.proofs.Common.{◌≡◌, ◌++◌, drop, flat_map, map}
use Rattle.gq_tree.specs.Views.{def_view}
use Rattle.gq_index.specs.Occurrences.{executable_in}
use Rattle.gq_index.specs.Views.{definitions_view}
use Rattle.gq_index.proofs.definitions.put_all.Given as goal

abbrev pub invariant-loop-definition : goal.invariant-loop-definition
invariant-loop-definition l =
    definitions_view l.all.items ++ flat_map (executable_in l.file) (map def_view (drop l.definition-index l.definitions))
    ≡ definitions_view l.initial.all.items ++ flat_map (executable_in l.file) (map def_view l.definitions)
