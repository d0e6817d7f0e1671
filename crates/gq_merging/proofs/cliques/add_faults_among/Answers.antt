use Rattle.std.proofs.Common.{rules, ◌≡◌, true, Some, None, length, subst}
use Rattle.std.specs.Option.{option_map}
use Rattle.std.proofs.lemmas.Result.{on_ok_weaker}
use Rattle.gq_types.specs.Look.{types_view}
use Rattle.gq_merging.specs.Helping.Comparisons.{may_differ}
use Rattle.gq_merging.specs.FieldsMerge.{Differ}
use Rattle.gq_merging.specs.Helping.SearchTables.{IsEarliest}
use Rattle.gq_merging.specs.Helping.SetTables.{MemberOf}
use Rattle.gq_merging.specs.Helping.Views.{field_at, member_view, members_view, look_view}
use Rattle.gq_merging.proofs.CliqueLemmas.{alone_none, no_first, no_second, two_tell_all}
use Rattle.gq_merging.proofs.cliques.add_faults_among.Goals as goal

pub returns-then-members-eq1 : goal.returns-then-members-eq1
returns-then-members-eq1 c =
    let one : length c.args.members.now ≡ 1 = search rules in
    alone_none (look_view c.args.look) c.args.members.now c.args.faults.now.items one

pub returns-in_default : goal.returns-in_default
returns-in_default c =
    let ms = members_view c.args.members.now in
    let may = λ (m : MemberOf). may_differ (types_view c.args.look.types.now) c.args.look.purpose m.field_at ≡ true in
    let none : c.earliest_of.result ≡ None = search rules in
    no_first (look_view c.args.look) ms c.requires.clique c.args.faults.now.items (subst (λ o. IsEarliest may ms (option_map member_view o)) none c.earliest_of.ensures)

pub returns-in_default-2 : goal.returns-in_default-2
returns-in_default-2 c =
    let ms = members_view c.args.members.now in
    let may = λ (m : MemberOf). may_differ (types_view c.args.look.types.now) c.args.look.purpose m.field_at ≡ true in
    let differs = λ (m : MemberOf). Differ (types_view c.args.look.types.now) c.args.look.purpose (field_at c.in-Some.first.it) m.field_at in
    let some : c.earliest_of.result ≡ Some c.in-Some.first = search rules in
    let none : c.in_ok-second.field-0 ≡ None = search rules in
    no_second (look_view c.args.look) ms c.requires.clique (member_view c.in-Some.first)
    (subst (λ o. IsEarliest may ms (option_map member_view o)) some c.earliest_of.ensures) c.args.faults.now.items
    (subst (λ o. IsEarliest differs ms (option_map member_view o)) none c.in_ok-second.ensures)

pub returns : goal.returns
returns c =
    let ms = members_view c.args.members.now in
    let may = λ (m : MemberOf). may_differ (types_view c.args.look.types.now) c.args.look.purpose m.field_at ≡ true in
    let differs = λ (m : MemberOf). Differ (types_view c.args.look.types.now) c.args.look.purpose (field_at c.in-Some.first.it) m.field_at in
    let some : c.earliest_of.result ≡ Some c.in-Some.first = search rules in
    let other : c.in_ok-second.field-0 ≡ Some c.in-Some-2.second = search rules in
    on_ok_weaker c.add_faults_with-2.result
    (two_tell_all (look_view c.args.look) ms c.requires.clique (member_view c.in-Some.first)
    (subst (λ o. IsEarliest may ms (option_map member_view o)) some c.earliest_of.ensures)
    (member_view c.in-Some-2.second) (subst (λ o. IsEarliest differs ms (option_map member_view o)) other c.in_ok-second.ensures)
    c.args.faults.now.items c.add_faults_with.new.faults.items c.add_faults_with-2.new.faults.items c.in_ok-add_faults_with.ensures)
    c.add_faults_with-2.ensures
