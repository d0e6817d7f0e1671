use Rattle.std.proofs.Common.{rules, ◌++◌, sym, ap, ◌∙◌, ◌<◌, ◌≤◌, length, get_or}
use Rattle.std.proofs.lemmas.List.{map-append}
use Rattle.std.proofs.lemmas.Option.{slice_get-get_or, slice_get_past}
use Rattle.gq_merging.specs.Helping.Views.{members_view, member_view}
use Rattle.gq_merging.proofs.MemberSteps.{members_of_row, members_past, append_nothing}
use Rattle.gq_merging.proofs.members.put_members.Goals as goal

pub returns-in_ok-extend_from_slice : goal.returns-in_ok-extend_from_slice
returns-in_ok-extend_from_slice c =
    let inside : c.args.number < length c.args.rows.now = search rules in
    ap members_view c.in_ok-extend_from_slice.ensures.items ∙ map-append member_view c.args.members.now.items c.deref.result.now
    ∙ ap (λ ms. members_view c.args.members.now.items ++ members_view ms) c.deref.ensures.value
    ∙ ap (λ ms. members_view c.args.members.now.items ++ ms) (sym (members_of_row c.args.rows.now c.args.number (get_or c.args.rows.now c.args.number c.index-rows-number.result) (slice_get-get_or c.args.rows.now c.args.number c.index-rows-number.result inside)))

pub returns-else-number-rows : goal.returns-else-number-rows
returns-else-number-rows c =
    let past : length c.args.rows.now ≤ c.args.number = search rules in
    sym (ap (λ ms. members_view c.args.members.now.items ++ ms) (members_past c.args.rows.now c.args.number (slice_get_past c.args.rows.now c.args.number past)) ∙ append_nothing (members_view c.args.members.now.items))
