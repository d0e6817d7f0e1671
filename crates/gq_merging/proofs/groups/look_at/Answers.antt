use Rattle.std.proofs.Common.{◌≡◌, ◌<◌, ◌∙◌, Some, All, length, sym, ap, subst, arith}
use Rattle.std.specs.List.{flat_map}
use Rattle.std.proofs.lemmas.Option.{same_Some}
use Rattle.gq_graph.specs.Reach.{row}
use Rattle.gq_merging.specs.Helping.GroupTables.{AreReached}
use Rattle.gq_merging.specs.Helping.SetTables.{members_at}
use Rattle.gq_merging.specs.Helping.Views.{rows_view}
use Rattle.gq_merging.proofs.ClassLemmas.{group_at, group_in_range}
use Rattle.gq_merging.proofs.MemberSteps.{count_alike, lone_members}
use Rattle.gq_merging.proofs.groups.look_at.Goals as goal

pub reached_sets-requires-clause-starts : goal.reached_sets-requires-clause-starts
reached_sets-requires-clause-starts c =
    let range : All (λ n. n < length (rows_view c.args.tables.rows.now)) c.index.result.now.items =
    group_in_range (rows_view c.args.tables.rows.now) c.args.groups.now.items c.args.place c.index.result.now c.requires.place c.index.ensures c.requires.test.range in
    subst (λ ns. All (λ n. n < length c.args.tables.spreads.now) ns) (sym c.deref.ensures.value)
    (subst (λ k. All (λ n. n < k) c.index.result.now.items) (sym (count_alike c.args.tables.rows.now c.args.tables.spreads.now c.requires.spreads)) range)

pub look_at_members-requires-clause-members : goal.look_at_members-requires-clause-members
look_at_members-requires-clause-members c =
    let rows = c.args.tables.rows.now in
    let found = c.as_slice.result.now in
    let one : length found ≡ 1 = omega (arith, c.in-len1.len_at_least, c.in-len1.len_below) in
    let same : found ≡ c.deref-in-len1.result.now = c.as_slice.ensures.value ∙ sym c.deref-in-len1.ensures.value in
    c.own_members-members.ensures ∙ lone_members (rows_view rows) found one ∙ ap (flat_map (members_at (rows_view rows))) same

pub look_at_members-requires-in_default-clause-reached : goal.look_at_members-requires-in_default-clause-reached
look_at_members-requires-in_default-clause-reached c group at =
    let next = row c.args.tables.spreads.now in
    let group_is : group ≡ c.deref.result.now =
    same_Some group c.deref.result.now (sym at ∙ group_at c.args.groups.now.items c.args.place c.index.result.now c.requires.place c.index.ensures ∙ ap Some (sym c.deref.ensures.value)) in
    subst (λ g. AreReached next g c.deref-in_default-2.result.now) (sym group_is)
    (subst (λ f. AreReached next c.deref.result.now f) (sym c.deref-in_default-2.ensures.value) record { sound = c.in_ok-found.ensures.sound; complete = c.in_ok-found.ensures.complete })
