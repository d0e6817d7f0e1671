use Rattle.std.proofs.Common.{◌≡◌, ◌++◌, drop, flat_map}
use Rattle.gq_tree.specs.Readings.{readings_view}
use Rattle.gq_completion.specs.Helping.Fragments.{fragments_in}
use Rattle.gq_completion.proofs.fragments.fragment_names.Given as goal

abbrev pub invariant-loop-reading : goal.invariant-loop-reading
invariant-loop-reading l = l.names.items ++ flat_map fragments_in (readings_view (drop l.reading-index l.readings)) ≡ flat_map fragments_in (readings_view l.readings)
