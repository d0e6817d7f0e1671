use Rattle.std.proofs.Common.{rules, ◌≡◌, ◌<◌, [], length, get_or, sym, subst, take}
use Rattle.gq_types.specs.Look.{types_view}
use Rattle.gq_merging.specs.Helping.NameTables.{by_name_view}
use Rattle.gq_merging.specs.Helping.ParentTables.{parent_text, AreByParent}
use Rattle.gq_merging.specs.Helping.Views.{members_view}
use Rattle.gq_merging.proofs.ClassLemmas.{members_more}
use Rattle.gq_merging.proofs.ParentLemmas.{none_by_parent}
use Rattle.gq_merging.proofs.by_parent.FieldsByParent.of.Goals as goal

pub loop-member-init : goal.loop-member-init
loop-member-init c =
    let none : members_view c.new-2.result.items ≡ [] = search rules in
    subst (λ os. AreByParent (types_view c.args.types.now) (by_name_view c.new.result) os []) (sym none)
    (none_by_parent (types_view c.args.types.now) (by_name_view c.new.result) (c.new.ensures parent_text))

pub loop-member-preserved : goal.loop-member-preserved
loop-member-preserved c =
    let l : c.loop-member.member-index < length c.args.members.now = search rules in
    let e : get_or c.args.members.now c.loop-member.member-index c.member-item.result ≡ c.member-item.result = search rules in
    subst (AreByParent (types_view c.args.types.now) (by_name_view c.put.new.self.of_objects) (members_view c.put.new.self.of_others.items))
    (sym (members_more c.args.members.now c.loop-member.member-index c.member-item.result l e))
    (c.in_ok-put.ensures (members_view (take c.loop-member.member-index c.args.members.now)) c.loop-member.invariant)
