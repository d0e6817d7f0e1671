use Rattle.std.proofs.Common.{map, subst, sym}
use Rattle.gq_lex.specs.Tokens.{lexeme_of}
use Rattle.gq_parse.specs.Helping.Telling.{IsFaultIn}
use Rattle.gq_parse.proofs.Telling.{telling}
use Rattle.gq_parse.proofs.parser.fault_in.Goals as goal

pub returns-in-Ok : goal.returns-in-Ok
returns-in-Ok c =
    let tokens = map lexeme_of c.args.tokens.now in
    subst (IsFaultIn tokens c.args.len) (sym c.told.ensures) (telling tokens c.in-Ok.wrong c.args.deep c.args.len c.in-Ok.ensures c.requires.deep c.requires.none)
