use Rattle.std.proofs.Common.{List, Err, ap, map, subst, arith}
use Rattle.std.proofs.lemmas.List.{length-map}
use Rattle.gq_lex.specs.declared.token.Token.{Token}
use Rattle.gq_lex.specs.Tokens.{lexeme_of}
use Rattle.gq_parse.specs.Limits.{IsNestedWithin}
use Rattle.gq_reshape.proofs.LowLemmas.{tokens_fine, bad_passes_nothing}
use Rattle.gq_reshape.proofs.depth.tokens_pass_limit.Goals as goal

pub returns-in-Ok : goal.returns-in-Ok
returns-in-Ok c = (
  λ t. absurd (cc),
  λ passes. absurd (tokens_fine c.args.text.now (map lexeme_of c.in-Ok.tokens.items) c.one_reading.ensures c.limits_are_passed.ensures c.in-Ok.ensures.found (let e = length-map c.in-Ok.tokens.items lexeme_of in let few = c.in-Ok.ensures.few in omega (arith, e, few)) (subst (λ (ts : List Token). IsNestedWithin 100 (map lexeme_of ts)) c.deref.ensures.value c.in-None.ensures.none) passes),
)

pub returns-in-Err-Bad : goal.returns-in-Err-Bad
returns-in-Err-Bad c =
    let bad = c.in-Err-Bad.ensures.bad c.in-Err-Bad.field-0-0 c.in-Err-Bad.field-0-1 (ap Err c.in-Err-Bad.field-0-is) in
    (λ t. absurd (cc), λ passes. absurd (bad_passes_nothing c.args.text.now c.in-Err-Bad.field-0-0 c.in-Err-Bad.field-0-1 c.one_fault.ensures c.faults_read_as_nothing.ensures bad passes))
