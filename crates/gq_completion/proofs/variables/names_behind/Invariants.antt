use Rattle.std.proofs.Common.{◌≡◌, ◌++◌, false, drop, map}
use Rattle.gq_lex.specs.Tokens.{lexeme_of}
use Rattle.gq_completion.specs.Helping.Variables.{names_behind}
use Rattle.gq_completion.proofs.variables.names_behind.Given as goal

abbrev pub invariant-loop-token : goal.invariant-loop-token
invariant-loop-token l = l.names.items ++ names_behind l.place l.behind (map lexeme_of (drop l.token-index l.tokens)) ≡ names_behind l.place false (map lexeme_of l.tokens)
