use Rattle.std.proofs.Common.{arith, ◌≡◌, ◌+◌, length, drop, map, sym, ap, subst, ◌∙◌, ℕ, List, [], ◌∷◌, ◌++◌, length-drop}
use Rattle.std.proofs.lemmas.List.{length-map}
use Rattle.gq_lex.specs.Tokens.{ReadsTo, here, lexeme_of, IsLimitAt, Lexeme}
use Rattle.gq_lex.proofs.Readings.{lexeme_is, limit_here, step_ignored, step_token, token_cuts}
use Rattle.gq_lex.proofs.lexer.lex.Goals as goal

pub loop-at-init : goal.loop-at-init
loop-at-init c =
    let empty : map lexeme_of c.in_ok-tokens.tokens.items ≡ [] = ap (map lexeme_of) c.in_ok-tokens.ensures.none in
    let P : List Lexeme → Type 0 = λ l. ReadsTo 0 c.args.text.now l c.args.text.now in
    record { within = omega arith; few = omega (arith, ap length c.in_ok-tokens.ensures.none); reads = subst P (sym empty) here }

pub returns-then-len-eq-TOKENS_MAX-clause-limit : goal.returns-then-len-eq-TOKENS_MAX-clause-limit
returns-then-len-eq-TOKENS_MAX-clause-limit c = λ place h.
    let same : c.loop-at.at ≡ place = cc in
    subst (IsLimitAt c.args.text.now) same
    (limit_here c.args.text.now c.loop-at.at (map lexeme_of c.loop-at.tokens.items) c.in-Ok.found c.in-Some.kind c.in-Some.is c.loop-at.invariant.within (omega (arith, length-map c.loop-at.tokens.items lexeme_of, c.len.ensures, c.loop-at.tokens.ok.0)) c.loop-at.invariant.reads c.in-Ok.ensures.found)

pub cut-requires-clause-start : goal.cut-requires-clause-start
cut-requires-clause-start c = (token_cuts c.args.text.now c.loop-at.at c.in-Ok.found c.in-Some.kind c.in-Some.is c.utf8.text (omega arith) c.in-Ok.ensures.found).0

pub cut-requires-clause-end : goal.cut-requires-clause-end
cut-requires-clause-end c = (token_cuts c.args.text.now c.loop-at.at c.in-Ok.found c.in-Some.kind c.in-Some.is c.utf8.text (omega arith) c.in-Ok.ensures.found).1

pub loop-at-preserved : goal.loop-at-preserved
loop-at-preserved c = record {
  within = omega (arith, c.in-Ok.ensures.found.within, length-drop c.loop-at.at c.args.text.now);
  few = c.loop-at.invariant.few;
  reads = step_ignored c.args.text.now c.loop-at.at (map lexeme_of c.loop-at.tokens.items) c.in-Ok.found c.in_default.is c.loop-at.invariant.reads c.in-Ok.ensures.found;
}

pub loop-at-preserved-in_ok-put : goal.loop-at-preserved-in_ok-put
loop-at-preserved-in_ok-put c =
    let text : List ℕ = c.args.text.now in
    let read : List Lexeme = map lexeme_of c.loop-at.tokens.items in
    let same = lexeme_is text c.cut.result.now c.loop-at.at c.in-Ok.found c.in-Some.kind c.in-Ok.ensures.found c.cut.ensures in
    let P : List Lexeme → Type 0 = λ l. ReadsTo 0 text l (drop (c.loop-at.at + c.in-Ok.found.1) text) in
    record {
      within = omega (arith, c.in-Ok.ensures.found.within, length-drop c.loop-at.at text);
      few = omega (arith, c.in_ok-put.ensures.more, c.len.ensures, c.if-len-eq-TOKENS_MAX.false, c.loop-at.tokens.ok.0, c.loop-at.invariant.few);
      reads = subst P (sym (c.in_ok-put.ensures.ok ∙ ap (λ x. read ++ x ∷ []) same)) (step_token text c.loop-at.at read c.in-Ok.found c.in-Some.kind c.in-Some.is c.loop-at.invariant.within c.loop-at.invariant.reads c.in-Ok.ensures.found);
    }
