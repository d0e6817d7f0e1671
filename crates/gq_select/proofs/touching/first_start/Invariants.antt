use Rattle.std.proofs.Common.{◌≡◌, drop, map}
use Rattle.std.specs.Prelude.{find}
use Rattle.std.specs.Option.{option_map}
use Rattle.gq_lex.specs.Tokens.{lexeme_of}
use Rattle.gq_select.specs.Touched.{is_touched}
use Rattle.gq_select.proofs.touching.first_start.Given as goal

abbrev pub invariant-loop-token : goal.invariant-loop-token
invariant-loop-token l = option_map (λ t. t.span.start) (find (is_touched l.range) (map lexeme_of (drop l.token-index l.tokens))) ≡ option_map (λ t. t.span.start) (find (is_touched l.range) (map lexeme_of l.tokens))
