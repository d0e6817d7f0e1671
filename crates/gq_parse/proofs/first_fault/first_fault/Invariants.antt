use Rattle.std.proofs.Common.{take, map}
use Rattle.std.specs.Prelude.{reverse}
use Rattle.gq_lex.specs.Tokens.{lexeme_of}
use Rattle.gq_parse.proofs.Machine.{Reach}
use Rattle.gq_parse.proofs.first_fault.first_fault.Given as goal

abbrev pub invariant-loop-i : goal.invariant-loop-i
invariant-loop-i l = Reach (take l.i (map lexeme_of l.tokens)) (reverse l.stack.items)
