use Rattle.std.proofs.Common.{◌-◌, ◌^◌, ◌≤◌, length, drop, map}
use Rattle.gq_lex.specs.Tokens.{ReadsTo, lexeme_of}
use Rattle.gq_lex.proofs.lexer.lex.Given as goal

abbrev pub invariant-loop-at : goal.invariant-loop-at
invariant-loop-at l = record {
  within : l.at ≤ length l.text;
  few : length l.tokens.items ≤ 2 ^ 20;
  reads : ReadsTo 0 l.text (map lexeme_of l.tokens.items) (drop l.at l.text);
}

abbrev pub decreases-loop-at : goal.decreases-loop-at
decreases-loop-at l = length l.text - l.at
