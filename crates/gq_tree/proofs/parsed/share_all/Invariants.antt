use Rattle.std.proofs.Common.{◌≡◌}
use Rattle.gq_tree.specs.Readings.{readings_view, unshared_view}
use Rattle.gq_tree.proofs.parsed.share_all.Given as goal

abbrev pub invariant-loop-reading : goal.invariant-loop-reading
invariant-loop-reading l = readings_view l.shared.items ≡ unshared_view l.yielded
