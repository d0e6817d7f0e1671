use Rattle.std.proofs.Common.{rules, ◌≡◌, ◌∷◌, [], ◌++◌, ap, sym, ◌∙◌, subst, append-nil, List, ℕ}
use Rattle.std.specs.Prelude.{Contains}
use Rattle.gq_graph.specs.Helping.Finished.{Walk}
use Rattle.gq_graph.proofs.Walking.{walk_opens}
use Rattle.gq_graph.proofs.walk.walk.Goals as goal

pub loop-top-init : goal.loop-top-init
loop-top-init c =
    let stack : c.push.new.self.items ≡ c.args.number ∷ [] =
    c.in_ok-push.ensures.items ∙ ap (λ (l : List ℕ). l ++ c.args.number ∷ []) c.new-stack.ensures.items in
    record {
      walk = subst (λ l. Walk c.args.rows.now c.args.passed.now.items c.args.finished.now.marks.items c.args.finished.now.numbers.items l)
          (sym stack)
          (walk_opens c.args.rows.now c.args.passed.now.items c.args.finished.now.marks.items c.args.finished.now.numbers.items c.args.number
          c.requires.walk c.requires.range);
      kept = λ n h. subst (λ l. Contains (c.args.finished.now.numbers.items ++ l) n) (sym stack) h;
    }

pub loop-top-preserved : goal.loop-top-preserved
loop-top-preserved c =
    let stack : c.loop-top.stack.items ≡ c.pop.new.self.items ++ c.in-Some.top ∷ [] = c.in-Some.ensures.items in
    record {
      walk = c.in_ok-step.ensures.walk;
      kept = λ n h. c.in_ok-step.ensures.kept n
          (subst (λ l. Contains (c.loop-top.finished.numbers.items ++ l) n) stack (c.loop-top.invariant.kept n h));
    }

pub returns-clause-kept : goal.returns-clause-kept
returns-clause-kept c =
    let stack : c.loop-top.stack.items ≡ [] = search rules in
    λ n h. subst (λ l. Contains l n) (append-nil c.loop-top.finished.numbers.items)
    (subst (λ l. Contains (c.loop-top.finished.numbers.items ++ l) n) stack (c.loop-top.invariant.kept n h))
