use Rattle.std.proofs.Common.{rules, ◌≡◌, ◌≤◌, [], length, sym, arith, ap, subst}
use Rattle.std.proofs.lemmas.Bool.Decides.{nat_tests}
use Rattle.std.proofs.lemmas.List.{length-map, nil_from_length}
use Rattle.gq_merging.specs.Helping.SearchTables.{Search}
use Rattle.gq_merging.specs.Helping.KeptTables.{tables_view}
use Rattle.gq_merging.specs.Helping.GroupViews.{groups_view}
use Rattle.gq_merging.specs.Helping.Views.{row_view, look_view}
use Rattle.gq_merging.proofs.KeptLemmas.{none_kept}
use Rattle.gq_merging.proofs.GroupSearch.{search_starts, search_ends}
use Rattle.gq_merging.proofs.search.search_groups.Goals as goal

pub returns-then-is_empty : goal.returns-then-is_empty
returns-then-is_empty c =
    let first = groups_view c.in_ok-groups.groups.items in
    let count = sym (length-map c.args.look.rows.now row_view) in
    let no_groups : c.in_ok-groups.groups.items ≡ [] = nil_from_length _ (grind (arith, nat_tests)) in
    let none : c.new.result.items ≡ [] = c.new.ensures.items in
    let all : length first ≤ 0 = subst (λ gs. length (groups_view gs) ≤ 0) (sym no_groups) (omega arith) in
    search_ends (look_view c.args.look) c.args.passed.now c.requires.sets count c.requires.size first c.in_ok-groups.ensures c.requires.passed c.new.result.items first 0
    (subst (λ is. Search (look_view c.args.look) c.args.passed.now first is first 0) (sym none)
    (search_starts (look_view c.args.look) c.args.passed.now c.requires.sets count c.requires.size first c.in_ok-groups.ensures c.requires.passed))
    all

pub loop-done-init : goal.loop-done-init
loop-done-init c =
    let first = groups_view c.in_ok-groups.groups.items in
    let none : c.new-faults.result.items ≡ [] = c.new-faults.ensures.items in (
      subst (λ is. Search (look_view c.args.look) c.args.passed.now first is first 0) (sym none)
          (search_starts (look_view c.args.look) c.args.passed.now c.requires.sets (sym (length-map c.args.look.rows.now row_view)) c.requires.size first c.in_ok-groups.ensures c.requires.passed),
      none_kept (look_view c.args.look) c.new-faults.result.items first (tables_view c.in_ok-notes.notes.kept.tables.items) (ap tables_view c.in_ok-notes.ensures),
      c.in_ok-parts.ensures,
    )

pub search_on-requires-clause-kept : goal.search_on-requires-clause-kept
search_on-requires-clause-kept c = c.loop-done.invariant.1

pub search_on-requires-clause-parts : goal.search_on-requires-clause-parts
search_on-requires-clause-parts c = c.loop-done.invariant.2

pub loop-done-preserved : goal.loop-done-preserved
loop-done-preserved c =
    let t = c.if-not-branch.false in (
      c.in_ok-search_on.ensures.search t c.args.passed.now (groups_view c.in_ok-groups.groups.items) c.loop-done.invariant.0,
      c.in_ok-search_on.ensures.kept t,
      c.loop-done.invariant.2,
    )

pub returns : goal.returns
returns c =
    let past : length c.loop-done.groups.items ≤ c.loop-done.done = search rules in
    let all : length (groups_view c.loop-done.groups.items) ≤ c.loop-done.done = omega (arith, past, length-map c.loop-done.groups.items (λ v. v.items)) in
    search_ends (look_view c.args.look) c.args.passed.now c.requires.sets (sym (length-map c.args.look.rows.now row_view)) c.requires.size (groups_view c.in_ok-groups.groups.items) c.in_ok-groups.ensures c.requires.passed
    c.loop-done.faults.items (groups_view c.loop-done.groups.items) c.loop-done.done c.loop-done.invariant.0 all
