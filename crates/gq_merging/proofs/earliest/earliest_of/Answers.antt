use Rattle.std.proofs.Common.{rules, ◌≡◌, ◌<◌, true, length, get_or, sym, ◌∙◌}
use Rattle.gq_types.specs.Look.{types_view}
use Rattle.gq_merging.specs.Helping.Comparisons.{may_differ}
use Rattle.gq_merging.proofs.EarliestLemmas.{earliest_more}
use Rattle.gq_merging.proofs.earliest.earliest_of.Goals as goal

pub loop-member-preserved : goal.loop-member-preserved
loop-member-preserved c =
    let l : c.loop-member.member-index < length c.args.members.now = search rules in
    let e : get_or c.args.members.now c.loop-member.member-index c.member-item.result ≡ c.member-item.result = search rules in
    earliest_more (λ m. may_differ (types_view c.args.look.types.now) c.args.look.purpose m.field_at ≡ true) c.args.members.now c.loop-member.member-index c.member-item.result
    c.may_differ-counts.result c.loop-member.earliest c.earlier-earliest.result l e
    ((λ t. sym c.may_differ-counts.ensures ∙ t), (λ t. c.may_differ-counts.ensures ∙ t)) c.earlier-earliest.ensures c.loop-member.invariant
