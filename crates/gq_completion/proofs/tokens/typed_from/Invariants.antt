use Rattle.std.proofs.Common.{◌≡◌, drop, map}
use Rattle.std.specs.Prelude.{find}
use Rattle.gq_lex.specs.Tokens.{lexeme_of}
use Rattle.gq_completion.specs.Tokens.{is_typed_at}
use Rattle.gq_completion.proofs.tokens.typed_from.Given as goal

abbrev pub invariant-loop-token : goal.invariant-loop-token
invariant-loop-token l = find (is_typed_at l.offset) (map lexeme_of (drop l.token-index l.tokens)) ≡ find (is_typed_at l.offset) (map lexeme_of l.tokens)
