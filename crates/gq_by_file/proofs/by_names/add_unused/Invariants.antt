use Rattle.std.proofs.Common.{◌≡◌, ◌++◌, drop, flat_map}
use Rattle.gq_document.specs.Definitions.{fragments_view}
use Rattle.gq_by_file.specs.Helping.ByNames.{unused_if}
use Rattle.gq_by_file.proofs.by_names.add_unused.Given as goal

abbrev pub invariant-loop-fragment : goal.invariant-loop-fragment
invariant-loop-fragment l =
    l.faults.items ++ flat_map (unused_if l.spread) (fragments_view (drop l.fragment-index l.fragments)) ≡ l.initial.faults.items ++ flat_map (unused_if l.spread) (fragments_view l.fragments)
