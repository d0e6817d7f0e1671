use Rattle.std.proofs.Common.{◌≡◌, ◌++◌, drop}
use Rattle.gq_tree.specs.Readings.{readings_view}
use Rattle.gq_kept.proofs.typed.add_shared.Given as goal

abbrev pub invariant-loop-reading : goal.invariant-loop-reading
invariant-loop-reading l = record {
  all : readings_view l.all.items ++ readings_view (drop l.reading-index l.readings) ≡ readings_view l.initial.all.items ++ readings_view l.readings;
}
