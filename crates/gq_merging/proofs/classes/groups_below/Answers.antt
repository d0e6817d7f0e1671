use Rattle.std.proofs.Common.{rules, ◌≤◌, length, subst}
use Rattle.std.proofs.lemmas.List.{take_all}
use Rattle.gq_types.specs.Look.{types_view}
use Rattle.gq_merging.specs.Helping.GroupTables.{HaveClasses}
use Rattle.gq_merging.specs.Helping.Views.{members_view, rows_view}
use Rattle.gq_merging.specs.Helping.GroupViews.{classes_view}
use Rattle.gq_merging.proofs.ClassLemmas.{settled_classes}
use Rattle.gq_merging.proofs.classes.groups_below.Goals as goal

pub returns-clause-settled : goal.returns-clause-settled
returns-clause-settled c =
    let all : length c.args.members.now ≤ c.loop-member.member-index = search rules in
    settled_classes (types_view c.args.tables.types.now) (rows_view c.args.tables.rows.now) (classes_view c.loop-member.classes) (members_view c.args.members.now)
    (subst (λ ms. HaveClasses (types_view c.args.tables.types.now) (rows_view c.args.tables.rows.now) (classes_view c.loop-member.classes) (members_view ms))
    (take_all c.loop-member.member-index c.args.members.now all) c.loop-member.invariant.have)
