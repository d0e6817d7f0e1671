use Rattle.std.proofs.Common.{rules, ◌≡◌, ◌<◌, ◌≤◌, ◌+◌, ◌*◌, ◌∷◌, [], ◌++◌, length, set, ap, sym, ◌∙◌, subst}
use Rattle.std.specs.Prelude.{Contains}
use Rattle.gq_graph.specs.Helping.Finished.{Walk, entries_left}
use Rattle.gq_graph.proofs.Walking.{walk_passes, walk_finishes, passes_fewer, keeps_pushed, keeps_finished, Entry, entry, all_passed}
use Rattle.gq_graph.proofs.walk.step.Goals as goal

pub returns-in_ok-push-2-clause-walk : goal.returns-in_ok-push-2-clause-walk
returns-in_ok-push-2-clause-walk c =
    let stack : c.push-then-at-len.new.self.items ≡ c.args.stack.now.items ++ c.args.top ∷ [] ++ c.index.result.now ∷ [] =
    c.in_ok-push-2.ensures.items ∙ ap (λ l. l ++ c.index.result.now ∷ []) c.in_ok-push.ensures.items in
    let b : c.index-at.result.now < length c.index-rows-top.result.items = search rules in
    let e : Entry c.args.rows.now c.args.passed.now.items c.args.top c.index-at.result.now c.index.result.now =
    entry c.args.rows.now c.args.passed.now.items c.args.finished.now.marks.items c.args.finished.now.numbers.items
    c.args.stack.now.items c.args.top c.index-at.result.now c.index.result.now c.index-rows-top.result
    c.requires.walk c.index-at.ensures c.index-rows-top.is b c.index.ensures in
    subst (λ l. Walk c.args.rows.now (set c.args.passed.now.items c.args.top (c.index-at.result.now + 1))
    c.args.finished.now.marks.items c.args.finished.now.numbers.items l)
    (sym stack)
    (walk_passes c.args.rows.now c.args.passed.now.items c.args.finished.now.marks.items c.args.finished.now.numbers.items
    c.args.stack.now.items c.args.top c.index.result.now c.index-at.result.now c.requires.rows c.requires.walk
    e.in_rows e.passed e.within e.is)

pub returns-in_ok-push-2-clause-kept : goal.returns-in_ok-push-2-clause-kept
returns-in_ok-push-2-clause-kept c =
    let stack : c.push-then-at-len.new.self.items ≡ c.args.stack.now.items ++ c.args.top ∷ [] ++ c.index.result.now ∷ [] =
    c.in_ok-push-2.ensures.items ∙ ap (λ l. l ++ c.index.result.now ∷ []) c.in_ok-push.ensures.items in
    λ n h. subst (λ l. Contains (c.args.finished.now.numbers.items ++ l) n) (sym stack)
    (keeps_pushed c.args.finished.now.numbers.items c.args.stack.now.items c.args.top c.index.result.now n h)

pub returns-in_ok-push-2-clause-fewer : goal.returns-in_ok-push-2-clause-fewer
returns-in_ok-push-2-clause-fewer c =
    let stack : c.push-then-at-len.new.self.items ≡ c.args.stack.now.items ++ c.args.top ∷ [] ++ c.index.result.now ∷ [] =
    c.in_ok-push-2.ensures.items ∙ ap (λ l. l ++ c.index.result.now ∷ []) c.in_ok-push.ensures.items in
    let b : c.index-at.result.now < length c.index-rows-top.result.items = search rules in
    let e : Entry c.args.rows.now c.args.passed.now.items c.args.top c.index-at.result.now c.index.result.now =
    entry c.args.rows.now c.args.passed.now.items c.args.finished.now.marks.items c.args.finished.now.numbers.items
    c.args.stack.now.items c.args.top c.index-at.result.now c.index.result.now c.index-rows-top.result
    c.requires.walk c.index-at.ensures c.index-rows-top.is b c.index.ensures in
    subst (λ l. 2 * entries_left c.args.rows.now (set c.args.passed.now.items c.args.top (c.index-at.result.now + 1)) + length l
    < 2 * entries_left c.args.rows.now c.args.passed.now.items + (length c.args.stack.now.items + 1))
    (sym stack)
    (passes_fewer c.args.rows.now c.args.passed.now.items c.args.stack.now.items c.args.top c.index.result.now c.index-at.result.now
    (subst (λ k. c.args.top < k) (sym c.requires.walk.passed_count) e.in_rows) e.passed e.within)

pub returns-in_ok-add-clause-walk : goal.returns-in_ok-add-clause-walk
returns-in_ok-add-clause-walk c =
    let b : length c.index-rows-top.result.items ≤ c.index-at.result.now = search rules in
    walk_finishes c.args.rows.now c.args.passed.now.items c.args.finished.now.marks.items c.add.new.self.marks.items
    c.args.finished.now.numbers.items c.add.new.self.numbers.items c.args.stack.now.items c.args.top c.requires.walk
    (all_passed c.args.rows.now c.args.passed.now.items c.args.finished.now.marks.items c.args.finished.now.numbers.items
    c.args.stack.now.items c.args.top c.index-at.result.now c.index-rows-top.result
    c.requires.walk c.index-at.ensures c.index-rows-top.is b)
    c.in_ok-add.ensures.added c.in_ok-add.ensures.marked c.add.ensures.count

pub returns-in_ok-add-clause-kept : goal.returns-in_ok-add-clause-kept
returns-in_ok-add-clause-kept c =
    λ n h. keeps_finished c.args.finished.now.numbers.items c.add.new.self.numbers.items c.args.stack.now.items c.args.top n
    c.in_ok-add.ensures.added h
