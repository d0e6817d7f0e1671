use Rattle.std.proofs.Common.{◌≡◌, drop, map}
use Rattle.std.specs.Option.{option_map, option_or}
use Rattle.gq_lex.specs.Tokens.{lexeme_of}
use Rattle.gq_document.specs.Last.{find_last}
use Rattle.gq_select.specs.Touched.{is_touched}
use Rattle.gq_select.proofs.touching.last_end.Given as goal

abbrev pub invariant-loop-token : goal.invariant-loop-token
invariant-loop-token l = option_or (option_map (λ t. t.span.end) (find_last (is_touched l.range) (map lexeme_of (drop l.token-index l.tokens)))) l.last ≡ option_map (λ t. t.span.end) (find_last (is_touched l.range) (map lexeme_of l.tokens))
