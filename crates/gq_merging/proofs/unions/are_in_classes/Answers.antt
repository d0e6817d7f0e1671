use Rattle.std.proofs.Common.{rules, ◌≡◌, ◌<◌, ◌≤◌, All, length, get_or, subst}
use Rattle.std.proofs.lemmas.List.{take_all}
use Rattle.std.proofs.lemmas.List.Elements.{All-nil}
use Rattle.gq_merging.specs.Helping.GroupViews.{groups_view}
use Rattle.gq_merging.specs.Helping.UnionTables.{IsInOne}
use Rattle.gq_merging.proofs.UnionLemmas.{groups_more}
use Rattle.gq_merging.proofs.unions.are_in_classes.Goals as goal

pub loop-group-init : goal.loop-group-init
loop-group-init c = All-nil (IsInOne c.args.numbers.now)

pub loop-group-preserved : goal.loop-group-preserved
loop-group-preserved c =
    let inside : c.loop-group.group-index < length c.args.groups.now = search rules in
    let read : get_or c.args.groups.now c.loop-group.group-index c.group-item.result ≡ c.group-item.result = search rules in
    groups_more (IsInOne c.args.numbers.now) c.args.groups.now c.loop-group.group-index c.group-item.result inside read c.loop-group.invariant
    (subst (IsInOne c.args.numbers.now) c.deref.ensures.value (c.is_in_one.ensures c.if-not-is_in_one.false))

pub returns : goal.returns
returns c = λ t.
    let past : length c.args.groups.now ≤ c.loop-group.group-index = search rules in
    subst (λ gs. All (IsInOne c.args.numbers.now) (groups_view gs)) (take_all c.loop-group.group-index c.args.groups.now past) c.loop-group.invariant
