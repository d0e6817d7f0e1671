use Rattle.std.proofs.Common.{◌≡◌, List, map, Err, ap, subst, sym, inl}
use Rattle.std.proofs.lemmas.Result.{IfErr-weaker}
use Rattle.gq_lex.specs.declared.token.Token.{Token}
use Rattle.gq_lex.specs.Tokens.{lexeme_of, Reads, IsBadAt}
use Rattle.gq_parse.specs.Helping.Telling.{IsFaultIn}
use Rattle.gq_parse.proofs.Derivations.{past_limits, bad_text}
use Rattle.gq_parse.proofs.Telling.{refuses_text}
use Rattle.gq_parse.proofs.parser.parse.Goals as goal

pub returns-in-Err-Bad-clause-refused : goal.returns-in-Err-Bad-clause-refused
returns-in-Err-Bad-clause-refused c = λ e document derives.
    bad_text _ _ _ document (c.in-Err-Bad.ensures.bad c.in-Err-Bad.place c.in-Err-Bad.field-0-1 (ap Err c.in-Err-Bad.field-0-is)) derives

pub returns-in-Err-Limit-clause-refused : goal.returns-in-Err-Limit-clause-refused
returns-in-Err-Limit-clause-refused c = λ e document derives.
    past_limits _ c.in-Err-Limit.place document (inl (c.in-Err-Limit.ensures.limit c.in-Err-Limit.place (ap Err c.in-Err-Limit.field-0-is))) derives

pub returns-in-Err-Bad-clause-syntax : goal.returns-in-Err-Bad-clause-syntax
returns-in-Err-Bad-clause-syntax c = λ place h.
    let bad = c.in-Err-Bad.ensures.bad c.in-Err-Bad.place c.in-Err-Bad.field-0-1 (ap Err c.in-Err-Bad.field-0-is) in
    let here : c.in-Err-Bad.place ≡ place = cc (h, c.in-Err-Bad.place-is) in
    inl (c.in-Err-Bad.field-0-1, subst (λ p. IsBadAt c.args.text.now p c.in-Err-Bad.field-0-1) here bad)

pub returns-clause-refused : goal.returns-clause-refused
returns-clause-refused c =
    let reads = subst (λ (ts : List Token). Reads c.args.text.now (map lexeme_of ts)) (sym c.deref.ensures.value) c.in-Ok.ensures.found in
    IfErr-weaker _ (IsFaultIn (map lexeme_of c.deref.result.now) _) _ (λ fault h e. refuses_text _ _ _ fault reads h e) c.tree.ensures.fault
