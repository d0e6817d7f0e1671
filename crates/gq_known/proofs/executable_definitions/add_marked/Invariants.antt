use Rattle.std.proofs.Common.{◌≡◌, ◌++◌, drop}
use Rattle.gq_document.specs.ReadBy.{read_by}
use Rattle.gq_known.specs.MixedFaults.{each_from}
use Rattle.gq_known.specs.Helping.Marked.{marked_mixed_at}
use Rattle.gq_known.proofs.executable_definitions.add_marked.Given as goal

abbrev pub invariant-loop-file : goal.invariant-loop-file
invariant-loop-file g l =
    l.faults.items ++ each_from (marked_mixed_at l.marks) l.file (read_by g.R.AsParsed.as_parsed (drop l.file l.readings))
    ≡ l.initial.faults.items ++ each_from (marked_mixed_at l.marks) 0 (read_by g.R.AsParsed.as_parsed l.readings)
