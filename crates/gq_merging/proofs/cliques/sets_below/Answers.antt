use Rattle.std.proofs.Common.{rules, ◌≡◌, ◌↔◌, ◌<◌, ◌≤◌, [], All, length, take, get_or, subst, sym}
use Rattle.std.proofs.lemmas.List.{take_all}
use Rattle.std.proofs.lemmas.List.Elements.{All-nil}
use Rattle.gq_merging.specs.Helping.SetTables.{MemberOf}
use Rattle.gq_merging.specs.Helping.GroupTables.{IsOfGroup}
use Rattle.gq_merging.specs.Helping.SearchTables.{IsBelowOne}
use Rattle.gq_merging.specs.Helping.Views.{members_view, rows_view}
use Rattle.gq_merging.proofs.ClassLemmas.{members_more}
use Rattle.gq_merging.proofs.GrowLemmas.{below_none}
use Rattle.gq_merging.proofs.cliques.sets_below.Goals as goal

pub loop-member-init : goal.loop-member-init
loop-member-init c =
    let none : c.new-group.result.items ≡ [] = c.new-group.ensures.items in
    below_none (rows_view c.args.rows.now) c.new-group.result.items none

pub loop-member-preserved : goal.loop-member-preserved
loop-member-preserved c =
    let l : c.loop-member.member-index < length c.args.members.now = search rules in
    let e : get_or c.args.members.now c.loop-member.member-index c.member-item.result ≡ c.member-item.result = search rules in
    subst (λ ms. (m : MemberOf) → IsOfGroup (rows_view c.args.rows.now) c.put_below.new.group.items m ↔ IsBelowOne (rows_view c.args.rows.now) ms m)
    (sym (members_more c.args.members.now c.loop-member.member-index c.member-item.result l e))
    (c.in_ok-put_below.ensures (members_view (take c.loop-member.member-index c.args.members.now)) c.loop-member.invariant)

pub returns : goal.returns
returns c =
    let past : length c.args.members.now ≤ c.loop-member.member-index = search rules in
    subst (λ xs. (m : MemberOf) → IsOfGroup (rows_view c.args.rows.now) c.loop-member.group.items m ↔ IsBelowOne (rows_view c.args.rows.now) (members_view xs) m)
    (take_all c.loop-member.member-index c.args.members.now past) c.loop-member.invariant
