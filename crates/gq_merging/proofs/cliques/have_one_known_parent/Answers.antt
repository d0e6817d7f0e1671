use Rattle.std.proofs.Common.{rules, ◌≡◌, ◌<◌, ◌≤◌, true, length, get_or, subst, Contains}
use Rattle.std.proofs.lemmas.List.{take_all}
use Rattle.gq_types.specs.Look.{types_view, text_of}
use Rattle.gq_merging.specs.FieldsMerge.{can_coincide}
use Rattle.gq_merging.specs.Helping.SetTables.{MemberOf}
use Rattle.gq_merging.specs.Helping.Views.{members_view}
use Rattle.gq_merging.proofs.ClassSearch.{one_parent, one_parent_more}
use Rattle.gq_merging.proofs.cliques.have_one_known_parent.Goals as goal

pub loop-member-preserved : goal.loop-member-preserved
loop-member-preserved c =
    let l : c.loop-member.member-index < length c.args.members.now = search rules in
    let e : get_or c.args.members.now c.loop-member.member-index c.member-item.result ≡ c.member-item.result = search rules in
    let is : text_of c.in-Some.first.now.it.parent ≡ text_of c.member-item.result.it.parent = search rules in
    one_parent_more c.args.members.now c.loop-member.member-index c.member-item.result (text_of c.in-Some.first.now.it.parent) l e is c.loop-member.invariant

pub returns : goal.returns
returns c = λ t.
    let past : length c.args.members.now ≤ c.loop-member.member-index = search rules in
    let e : can_coincide (types_view c.args.types.now) (text_of c.in-Some.first.now.it.parent) (text_of c.in-Some.first.now.it.parent) ≡ true = search rules in
    one_parent (types_view c.args.types.now) (members_view c.args.members.now) (text_of c.in-Some.first.now.it.parent) e
    (subst (λ xs. (m : MemberOf) → Contains (members_view xs) m → m.field_at.parent ≡ text_of c.in-Some.first.now.it.parent) (take_all c.loop-member.member-index c.args.members.now past) c.loop-member.invariant)
