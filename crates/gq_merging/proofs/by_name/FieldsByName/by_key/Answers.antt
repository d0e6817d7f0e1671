use Rattle.std.proofs.Common.{rules, ◌≡◌, ◌<◌, length, get_or, sym, subst, take}
use Rattle.gq_document.specs.FieldSets.{key}
use Rattle.gq_merging.specs.Helping.NameTables.{AreByKey, by_name_view}
use Rattle.gq_merging.specs.Helping.Views.{members_view}
use Rattle.gq_merging.proofs.ClassLemmas.{members_more}
use Rattle.gq_merging.proofs.by_name.FieldsByName.by_key.Goals as goal

pub loop-member-init : goal.loop-member-init
loop-member-init c = c.new-table.ensures (λ m. key m.field_at)

pub loop-member-preserved : goal.loop-member-preserved
loop-member-preserved c =
    let l : c.loop-member.member-index < length c.args.members.now = search rules in
    let e : get_or c.args.members.now c.loop-member.member-index c.member-item.result ≡ c.member-item.result = search rules in
    subst (AreByKey (by_name_view c.put.new.self)) (sym (members_more c.args.members.now c.loop-member.member-index c.member-item.result l e))
    (c.in_ok-put.ensures (λ m. key m.field_at) (members_view (take c.loop-member.member-index c.args.members.now)) (sym c.key.ensures) c.loop-member.invariant)
