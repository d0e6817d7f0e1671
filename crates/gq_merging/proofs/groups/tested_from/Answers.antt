use Rattle.std.proofs.Common.{rules, ◌≡◌, ◌<◌, ◌≤◌, ◌∷◌, [], ◌++◌, All, length, arith, ap, sym, ◌∙◌, subst}
use Rattle.std.proofs.lemmas.List.{length-map, map-append}
use Rattle.gq_types.specs.Look.{types_view}
use Rattle.gq_merging.specs.Helping.GroupTables.{IsTest, ArePassed}
use Rattle.gq_merging.specs.Helping.Views.{row_view, rows_view}
use Rattle.gq_merging.specs.Helping.GroupViews.{groups_view}
use Rattle.gq_merging.proofs.GroupLemmas.{test_begins, test_passed, test_ends}
use Rattle.gq_merging.proofs.groups.tested_from.Goals as goal

pub loop-done-init : goal.loop-done-init
loop-done-init c =
    let es = types_view c.args.tables.types.now in
    let rows = rows_view c.args.tables.rows.now in
    let kept = c.make_room.new.groups.items in
    let old = groups_view kept in
    let passed : ArePassed es rows old = c.make_room.ensures es rows c.requires.groups in
    let none : c.new-reached.result.items ≡ [] = c.new-reached.ensures.items in
    let begin : c.in_ok-from_slice.field-0.items ≡ c.args.starts.now = c.in_ok-from_slice.ensures.items in
    let groups : groups_view c.push.new.self.items ≡ old ++ c.args.starts.now ∷ [] =
    ap groups_view c.in_ok-push.ensures.items ∙ map-append (λ v. v.items) kept (c.in_ok-from_slice.field-0 ∷ []) ∙ ap (λ g. old ++ g ∷ []) begin in
    let count : c.len-done.result ≡ length kept = search rules in
    let done : c.len-done.result ≡ length old = omega (arith, count, length-map kept (λ v. v.items)) in
    let in_rows : All (λ n. n < length rows) c.args.starts.now =
    subst (λ k. All (λ n. n < k) c.args.starts.now) (sym (length-map c.args.tables.rows.now row_view)) c.requires.starts in
    subst (λ gs. IsTest es rows gs c.len-done.result c.new-reached.result.items) (sym groups)
    (subst (λ ns. IsTest es rows (old ++ c.args.starts.now ∷ []) c.len-done.result ns) (sym none)
    (subst (λ n. IsTest es rows (old ++ c.args.starts.now ∷ []) n []) (sym done) (test_begins es rows old c.args.starts.now passed in_rows)))

pub returns-then-not-branch-clause-groups : goal.returns-then-not-branch-clause-groups
returns-then-not-branch-clause-groups c = c.forget.ensures (types_view c.args.tables.types.now) (rows_view c.args.tables.rows.now)

pub returns-clause-groups : goal.returns-clause-groups
returns-clause-groups c =
    let past : length c.loop-done.groups.items ≤ c.loop-done.done = search rules in
    let all : length (groups_view c.loop-done.groups.items) ≤ c.loop-done.done = omega (arith, past, length-map c.loop-done.groups.items (λ v. v.items)) in
    test_passed (types_view c.args.tables.types.now) (rows_view c.args.tables.rows.now) (groups_view c.loop-done.groups.items) c.loop-done.done c.loop-done.reached.items c.loop-done.invariant all

pub returns-clause-tested : goal.returns-clause-tested
returns-clause-tested c =
    let past : length c.loop-done.groups.items ≤ c.loop-done.done = search rules in
    let all : length (groups_view c.loop-done.groups.items) ≤ c.loop-done.done = omega (arith, past, length-map c.loop-done.groups.items (λ v. v.items)) in
    test_ends (types_view c.args.tables.types.now) (rows_view c.args.tables.rows.now) (groups_view c.loop-done.groups.items) c.loop-done.done c.loop-done.reached.items c.loop-done.invariant all
