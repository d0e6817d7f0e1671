use Rattle.std.proofs.Common.{rules, ◌≡◌, ◌<◌, ◌≤◌, length, get_or, subst}
use Rattle.std.specs.Option.{option_map}
use Rattle.std.proofs.lemmas.List.{take_all}
use Rattle.gq_types.specs.Look.{types_view}
use Rattle.gq_merging.specs.FieldsMerge.{Differ}
use Rattle.gq_merging.specs.Helping.SearchTables.{IsEarliest}
use Rattle.gq_merging.specs.Helping.Views.{field_at, member_view, members_view}
use Rattle.gq_merging.proofs.EarliestLemmas.{earliest_more}
use Rattle.gq_merging.proofs.earliest.earliest_other.Goals as goal

pub loop-member-preserved : goal.loop-member-preserved
loop-member-preserved c =
    let l : c.loop-member.member-index < length c.args.members.now = search rules in
    let e : get_or c.args.members.now c.loop-member.member-index c.member-item.result ≡ c.member-item.result = search rules in
    earliest_more (λ m. Differ (types_view c.args.look.types.now) c.args.look.purpose (field_at c.args.one.now.it) m.field_at) c.args.members.now c.loop-member.member-index c.member-item.result
    c.in_ok-counts.counts c.loop-member.earliest c.earlier-earliest.result l e c.in_ok-counts.ensures c.earlier-earliest.ensures c.loop-member.invariant

pub returns : goal.returns
returns c =
    let past : length c.args.members.now ≤ c.loop-member.member-index = search rules in
    subst (λ xs. IsEarliest (λ m. Differ (types_view c.args.look.types.now) c.args.look.purpose (field_at c.args.one.now.it) m.field_at) (members_view xs) (option_map member_view c.loop-member.earliest))
    (take_all c.loop-member.member-index c.args.members.now past) c.loop-member.invariant
