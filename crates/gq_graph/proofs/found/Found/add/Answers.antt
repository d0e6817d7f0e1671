use Rattle.std.proofs.Common.{rules, ◌≡◌, ◌∷◌, [], ◌++◌, true, false, get_or, set, sym, subst}
use Rattle.gq_graph.specs.Helping.Found.{Marked}
use Rattle.gq_graph.proofs.Marking.{visit_marked, added_new}
use Rattle.gq_graph.proofs.found.Found.add.Goals as goal

pub returns-in_ok-push-clause-marked : goal.returns-in_ok-push-clause-marked
returns-in_ok-push-clause-marked c =
    let e : c.push.new.self.items ≡ c.args.self.now.numbers.items ++ c.args.number ∷ [] = c.in_ok-push.ensures.items in
    let b : get_or c.args.self.now.marks.items c.args.number false ≡ false = search rules in
    subst (λ l. Marked (set c.args.self.now.marks.items c.args.number true) l) (sym e)
    (visit_marked c.args.self.now.marks.items c.args.self.now.numbers.items c.args.number c.requires.marked c.requires.range b)

pub returns-in_ok-push-clause-added : goal.returns-in_ok-push-clause-added
returns-in_ok-push-clause-added c =
    let e : c.push.new.self.items ≡ c.args.self.now.numbers.items ++ c.args.number ∷ [] = c.in_ok-push.ensures.items in
    let b : get_or c.args.self.now.marks.items c.args.number false ≡ false = search rules in
    added_new c.args.self.now.marks.items c.args.self.now.numbers.items c.push.new.self.items c.args.number c.requires.marked b e
