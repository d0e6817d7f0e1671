use Rattle.std.proofs.Common.{rules, ◌≡◌, ◌++◌, ◌∷◌, [], ap, ◌∙◌, arith}
use Rattle.std.proofs.lemmas.Bool.Decides.{nat_tests}
use Rattle.std.proofs.lemmas.List.{map-append, nil_from_length}
use Rattle.gq_merging.specs.Helping.SearchTables.{AreBelowThese}
use Rattle.gq_merging.specs.Helping.GroupViews.{groups_view}
use Rattle.gq_merging.specs.Helping.Views.{members_view, rows_view}
use Rattle.gq_merging.proofs.GrowLemmas.{grows_one, grows_not, in_group_below, nothing_below}
use Rattle.gq_merging.proofs.cliques.put_group.Goals as goal

pub returns-in_ok-push : goal.returns-in_ok-push
returns-in_ok-push c =
    let rows = rows_view c.args.rows.now in
    let ms = members_view c.args.members.now in
    let group = c.in_ok-group.group in
    let pushed : c.push.new.self.items ≡ c.args.groups.now.items ++ group ∷ [] = search rules in
    grows_one rows (AreBelowThese rows ms) (groups_view c.args.groups.now.items) (groups_view c.push.new.self.items) group.items
    (ap groups_view pushed ∙ map-append (λ v. v.items) c.args.groups.now.items (group ∷ []))
    (in_group_below rows group.items ms c.in_ok-group.ensures)

pub returns-else-not-is_empty : goal.returns-else-not-is_empty
returns-else-not-is_empty c =
    let rows = rows_view c.args.rows.now in
    let ms = members_view c.args.members.now in
    let group = c.in_ok-group.group in
    let none : group.items ≡ [] = nil_from_length _ (grind (arith, nat_tests)) in
    grows_not rows (AreBelowThese rows ms) (groups_view c.args.groups.now.items) (nothing_below rows group.items ms c.in_ok-group.ensures none)
