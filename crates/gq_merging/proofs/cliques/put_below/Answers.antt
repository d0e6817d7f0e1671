use Rattle.std.proofs.Common.{rules, ◌≡◌, ◌++◌, ◌∷◌, []}
use Rattle.gq_merging.specs.Helping.Views.{member_view, rows_view}
use Rattle.gq_merging.proofs.GrowLemmas.{below_put, below_passed}
use Rattle.gq_merging.proofs.cliques.put_below.Goals as goal

pub returns-in_ok-push : goal.returns-in_ok-push
returns-in_ok-push c ms are =
    let pushed : c.push.new.self.items ≡ c.args.group.now.items ++ c.args.member.now.below ∷ [] = search rules in
    below_put (rows_view c.args.rows.now) c.args.group.now.items ms (member_view c.args.member.now) are c.push.new.self.items pushed

pub returns-else-has_selections : goal.returns-else-has_selections
returns-else-has_selections c ms are =
    below_passed (rows_view c.args.rows.now) c.args.group.now.items ms (member_view c.args.member.now) are (c.has_selections.ensures.none c.if-has_selections.false)
