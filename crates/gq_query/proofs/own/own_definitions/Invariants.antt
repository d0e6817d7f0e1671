use Rattle.std.proofs.Common.{◌≡◌, ◌++◌, drop, flat_map, map}
use Rattle.gq_tree.specs.Views.{def_view}
use Rattle.gq_index.specs.Occurrences.{executable_in}
use Rattle.gq_index.specs.Views.{definitions_view}
use Rattle.gq_query.proofs.own.own_definitions.Given as goal

abbrev pub invariant-loop-definition : goal.invariant-loop-definition
invariant-loop-definition l =
    definitions_view l.own.items ++ flat_map (executable_in l.file) (map def_view (drop l.definition-index l.definition-items))
    ≡ flat_map (executable_in l.file) (map def_view l.definition-items)
