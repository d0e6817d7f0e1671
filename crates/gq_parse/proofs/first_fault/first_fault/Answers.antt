use Rattle.std.proofs.Common.{arith, ◌≡◌, sym, subst, take, map, List, []}
use Rattle.std.specs.Prelude.{reverse}
use Rattle.std.proofs.lemmas.List.{length-map, take_all}
use Rattle.gq_lex.specs.Tokens.{lexeme_of}
use Rattle.gq_parse.specs.Prefix.{Begins}
use Rattle.gq_parse.specs.declared.expected.Symbol.{Symbol}
use Rattle.gq_parse.proofs.Machine.{Reach, start, reach_step, stop_at, reach_begins, at_true, at_false}
use Rattle.gq_parse.proofs.first_fault.first_fault.Goals as goal

pub loop-i-init : goal.loop-i-init
loop-i-init c = let P : List Symbol → Type 0 = λ l. Reach [] (reverse l) in subst P (sym c.new-stack.ensures.items) start

pub returns-then-not-branch-clause-fault : goal.returns-then-not-branch-clause-fault
returns-then-not-branch-clause-fault c =
    stop_at c.args.tokens.now c.loop-i.i _ _ _ c.loop-i-test.true c.loop-i.invariant c.word_of.ensures (at_false _ _ _ c.if-not-branch.true c.in_ok-step.ensures.taken)

pub loop-i-preserved : goal.loop-i-preserved
loop-i-preserved c =
    reach_step c.args.tokens.now c.loop-i.i _ _ _ _ c.loop-i-test.true c.loop-i.invariant c.word_of.ensures (at_true _ _ _ c.if-not-branch.false c.in_ok-step.ensures.taken)

pub returns-clause-none : goal.returns-clause-none
returns-clause-none c =
    let whole : take c.loop-i.i (map lexeme_of c.args.tokens.now) ≡ map lexeme_of c.args.tokens.now = take_all _ _ (omega (arith, length-map c.args.tokens.now lexeme_of)) in
    subst Begins whole (reach_begins c.loop-i.invariant)
