use Rattle.std.proofs.Common.{◌≡◌, ◌++◌, drop, flat_map, map}
use Rattle.gq_tree.specs.Views.{def_view}
use Rattle.gq_index.specs.Parts.{part_in}
use Rattle.gq_index.specs.Views.{parts_view}
use Rattle.gq_index.proofs.parts.parts_of.Given as goal

abbrev pub invariant-loop-definition : goal.invariant-loop-definition
invariant-loop-definition l = parts_view l.parts.items ++ flat_map part_in (map def_view (drop l.definition-index l.definitions)) ≡ flat_map part_in (map def_view l.definitions)
