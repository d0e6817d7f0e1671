use Rattle.std.proofs.Common.{rules, ◌≡◌, ◌++◌, ◌<◌, length, arith, ap, ◌∙◌}
use Rattle.std.proofs.lemmas.List.{map-append, length-map}
use Rattle.gq_types.specs.Look.{types_view}
use Rattle.gq_merging.specs.Helping.GroupTables.{AreBelow, AreSettled}
use Rattle.gq_merging.specs.Helping.Views.{members_view, rows_view}
use Rattle.gq_merging.specs.Helping.GroupViews.{groups_view}
use Rattle.gq_merging.proofs.MemberLemmas.{get_below}
use Rattle.gq_merging.proofs.GroupLemmas.{test_goes_on}
use Rattle.gq_merging.proofs.groups.look_at_members.Goals as goal

pub returns-clause-test : goal.returns-clause-test
returns-clause-test c =
    let within : c.args.group.place < length (groups_view c.args.groups.now.items) = omega (arith, c.requires.place, length-map c.args.groups.now.items (λ v. v.items)) in
    let there = get_below (groups_view c.args.groups.now.items) c.args.group.place within in
    let are = c.requires.reached there.0 there.1 in
    let pushed : c.append.new.self.items ≡ c.args.groups.now.items ++ c.in-Some.below.items = search rules in
    let is_new : groups_view c.append.new.self.items ≡ groups_view c.args.groups.now.items ++ groups_view c.in-Some.below.items =
    ap groups_view pushed ∙ map-append (λ v. v.items) c.args.groups.now.items c.in-Some.below.items in
    let all : c.extend_from_slice.new.self.items ≡ c.args.reached.now.items ++ c.args.group.sets.now = search rules in
    let range : AreBelow (rows_view c.args.tables.rows.now) (groups_view c.in-Some.below.items) = search rules in
    let settled : AreSettled (types_view c.args.tables.types.now) (rows_view c.args.tables.rows.now) (groups_view c.in-Some.below.items) (members_view c.args.group.members.now) = search rules in
    λ t. test_goes_on (types_view c.args.tables.types.now) c.args.tables.rows.now c.args.tables.spreads.now c.requires.spreads
    (groups_view c.args.groups.now.items) (groups_view c.in-Some.below.items) (groups_view c.append.new.self.items) c.args.group.place c.args.reached.now.items c.extend_from_slice.new.self.items
    there.0 c.args.group.sets.now (members_view c.args.group.members.now) c.requires.test there.1 within is_new
    are.sound are.complete c.requires.within c.requires.members range settled all
