-- the own faults of the files so far are gathered, and something is noted of each of them
use Rattle.std.proofs.Common.{◌≤◌, length}
use Rattle.gq_tree.specs.Readings.{readings_view}
use Rattle.gq_types.specs.Look.{types_view}
use Rattle.gq_by_file.specs.Own.{AreOwn}
use Rattle.gq_by_file.proofs.KnownOwnLemmas.{AreGathered}
use Rattle.gq_by_file.proofs.own.own_faults.Given as goal

abbrev pub invariant-loop-file : goal.invariant-loop-file
invariant-loop-file l =
    (l.file ≤ length l.own.items)
    × (AreOwn (types_view l.types) (readings_view l.readings) l.initial.own.items →
    AreOwn (types_view l.types) (readings_view l.readings) l.own.items × AreGathered (types_view l.types) (readings_view l.readings) l.file l.all.items)
