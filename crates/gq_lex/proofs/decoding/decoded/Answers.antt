use Rattle.std.proofs.Common.{◌≡◌, ◌+◌, ◌++◌, List, ℕ, Some, None, cond, eqb, sym, ap, ◌∙◌, arith, length, drop}
use Rattle.gq_lex.specs.Scanning.{step_at}
use Rattle.gq_lex.specs.Decoding.{value_at, with_front, decoded}
use Rattle.gq_lex.proofs.Decodings.{Onward, left_ends, left_goes, left_fails, left_all}
use Rattle.gq_lex.proofs.decoding.decoded.Goals as goal

goes : (c : goal.In_ok-push_value-in-Goes) → Onward c.args.form c.args.bytes.now c.loop-at.out.items c.loop-at.at c.in-Goes.len
goes c = left_goes c.args.form c.args.bytes.now c.loop-at.out.items c.loop-at.at c.in-Goes.len c.loop-at-test.true c.loop-at.invariant.left (ap (step_at c.args.form) (sym c.behind-rest.ensures) ∙ sym c.step_at.ensures ∙ c.in-Goes.is)

-- src/decoding.rt:29:32
pub returns-in-Ends : goal.returns-in-Ends
returns-in-Ends c =
    c.whole.ensures
    ∙ ap (λ (l : List ℕ). cond (eqb (length l) c.in-Ends.len) (Some c.loop-at.out.items) None) c.behind-rest.ensures
    ∙ sym (left_ends c.args.form c.args.bytes.now c.loop-at.out.items c.loop-at.at c.in-Ends.len c.loop-at-test.true c.loop-at.invariant.left (ap (step_at c.args.form) (sym c.behind-rest.ensures) ∙ sym c.step_at.ensures ∙ c.in-Ends.is))

-- src/decoding.rt:32:17
pub overflow_add-at : goal.overflow_add-at
overflow_add-at c = omega (arith, (goes c).within)

-- src/decoding.rt:26:5
pub loop-at-smaller : goal.loop-at-smaller
loop-at-smaller c = omega (arith, (goes c).within, (goes c).some)

-- src/decoding.rt:26:5
pub loop-at-preserved : goal.loop-at-preserved
loop-at-preserved c =
    let out : c.push_value.new.out.items ≡ c.loop-at.out.items ++ value_at c.args.form (drop c.loop-at.at c.args.bytes.now) =
    c.in_ok-push_value-in-Goes.ensures ∙ ap (λ (l : List ℕ). c.loop-at.out.items ++ value_at c.args.form l) c.behind-rest.ensures in
    record {
      within = (goes c).within;
      left = (goes c).left ∙ ap (λ (o : List ℕ). with_front o (decoded c.args.form (drop (c.loop-at.at + c.in-Goes.len) c.args.bytes.now) 0)) (sym out);
    }

-- src/decoding.rt:34:28
pub returns-in-Fails : goal.returns-in-Fails
returns-in-Fails c =
    sym (left_fails c.args.form c.args.bytes.now c.loop-at.out.items c.loop-at.at c.loop-at-test.true c.loop-at.invariant.left (ap (step_at c.args.form) (sym c.behind-rest.ensures) ∙ sym c.step_at.ensures ∙ c.in-Fails.is))

-- src/decoding.rt:17:1
pub returns : goal.returns
returns c = sym (left_all c.args.form c.args.bytes.now c.loop-at.out.items c.loop-at.at c.loop-at-test.false c.loop-at.invariant.left)
