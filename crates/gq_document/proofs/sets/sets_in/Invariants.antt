use Rattle.std.proofs.Common.{◌≡◌, ◌++◌, drop, map, flat_map}
use Rattle.gq_tree.specs.Views.{def_view}
use Rattle.gq_types.specs.Look.{types_view}
use Rattle.gq_document.specs.Sets.{sets_of}
use Rattle.gq_document.specs.SetViews.{sets_view}
use Rattle.gq_document.proofs.sets.sets_in.Given as goal

abbrev pub invariant-loop-definition : goal.invariant-loop-definition
invariant-loop-definition l =
    sets_view l.sets.items ++ flat_map (sets_of (types_view l.types)) (map def_view (drop l.definition-index l.definition-items)) ≡ flat_map (sets_of (types_view l.types)) (map def_view l.definition-items)
