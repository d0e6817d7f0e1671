use Rattle.std.proofs.Common.{◌≡◌, drop, map}
use Rattle.std.specs.Prelude.{nat_le}
use Rattle.std.specs.Option.{option_map, option_or}
use Rattle.gq_lex.specs.Tokens.{lexeme_of}
use Rattle.gq_document.specs.Last.{find_last}
use Rattle.gq_completion.proofs.tokens.last_ending.Given as goal

abbrev pub invariant-loop-token : goal.invariant-loop-token
invariant-loop-token l =
    option_or (find_last (λ t. nat_le t.span.end l.place) (map lexeme_of (drop l.token-index l.tokens))) (option_map lexeme_of l.last) ≡ find_last (λ t. nat_le t.span.end l.place) (map lexeme_of l.tokens)
