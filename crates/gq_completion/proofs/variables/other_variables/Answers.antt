use Rattle.std.proofs.Common.{◌↔◌, Contains, subst, sym, map}
use Rattle.std.proofs.lemmas.Result.{IfOk-weaker}
use Rattle.gq_lex.specs.Tokens.{lexeme_of}
use Rattle.gq_completion.specs.Tokens.{IsOtherVariable}
use Rattle.gq_completion.proofs.VariableLemmas.{names_are}
use Rattle.gq_completion.proofs.variables.other_variables.Goals as goal

pub returns : goal.returns
returns c =
    let tokens = map lexeme_of c.args.tokens.now in
    IfOk-weaker c.names_behind.result _ _
    (λ names is label. subst (λ xs. Contains xs label ↔ IsOtherVariable tokens c.args.offset label) (sym is) (names_are tokens c.args.offset c.place_before-place.result label c.place_before-place.ensures))
    c.names_behind.ensures
