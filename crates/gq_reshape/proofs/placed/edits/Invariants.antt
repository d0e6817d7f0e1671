use Rattle.std.proofs.Common.{◌≡◌, ◌++◌, drop}
use Rattle.gq_reshape.specs.Placed.{edits_from}
use Rattle.gq_reshape.specs.Helping.Fitting.{AllFit}
use Rattle.gq_reshape.proofs.placed.edits.Given as goal

abbrev pub invariant-loop-file : goal.invariant-loop-file
invariant-loop-file l =
    (l.edits.items ++ edits_from l.placed l.file (drop l.file l.documents) ≡ edits_from l.placed 0 l.documents) × AllFit l.placed l.file (drop l.file l.documents)
