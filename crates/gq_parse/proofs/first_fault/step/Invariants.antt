use Rattle.std.proofs.Common.{◌≡◌, length}
use Rattle.std.specs.Prelude.{reverse}
use Rattle.gq_parse.specs.Helping.Expected.{advance}
use Rattle.gq_parse.proofs.first_fault.step.Given as goal

abbrev pub invariant-loop-symbol : goal.invariant-loop-symbol
invariant-loop-symbol l = advance (reverse l.stack.items) l.kind l.word ≡ advance (reverse l.fn.stack.items) l.kind l.word

abbrev pub decreases-loop-symbol : goal.decreases-loop-symbol
decreases-loop-symbol l = length l.stack.items
