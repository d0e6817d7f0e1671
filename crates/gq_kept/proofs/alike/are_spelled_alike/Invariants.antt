-- the tokens so far are the same but for their places
use Rattle.std.proofs.Common.{◌≡◌, map, take}
use Rattle.gq_lex.specs.Tokens.{lexeme_of}
use Rattle.gq_laws.specs.Placing.Tokens.{spelling_of}
use Rattle.gq_kept.proofs.alike.are_spelled_alike.Given as goal

abbrev pub invariant-loop-at : goal.invariant-loop-at
invariant-loop-at l = map spelling_of (map lexeme_of (take l.at l.tokens)) ≡ map spelling_of (map lexeme_of (take l.at l.others))
