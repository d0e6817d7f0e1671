use Rattle.std.proofs.Common.{drop}
use Rattle.gq_text.proofs.Splices.{Made}
use Rattle.gq_text.proofs.text.Text.apply_each.Given as goal

abbrev pub invariant-loop-change : goal.invariant-loop-change
invariant-loop-change g l = Made l.encoding l.fn.self l.changes l.self (drop l.change-index l.changes)
