use Rattle.std.proofs.Common.{ℕ, Option, map, subst, arith}
use Rattle.std.specs.Prelude.{IfSome}
use Rattle.std.proofs.lemmas.List.{length-map}
use Rattle.gq_lex.specs.Tokens.{lexeme_of}
use Rattle.gq_parse.specs.Prefix.{IsSyntaxAt}
use Rattle.gq_parse.proofs.Telling.{token_starts}
use Rattle.gq_parse.proofs.parser.first_wrong.Goals as goal

pub returns-in-Some : goal.returns-in-Some
returns-in-Some c =
    let tokens = c.args.tokens.now in
    let wrong = subst (λ (o : Option ℕ). IfSome o (IsSyntaxAt (map lexeme_of tokens))) c.in-Some.is c.in_ok-i.ensures.fault in
    (c.in-Some.i, wrong, token_starts tokens c.in-Some.i _ (omega (arith, wrong.within, length-map tokens lexeme_of)))
