use Rattle.std.proofs.Common.{◌+◌, ◌<◌, [], append-nil, length, sym, arith, subst}
use Rattle.std.proofs.lemmas.List.{length-map}
use Rattle.gq_merging.specs.Helping.SearchTables.{WasThere}
use Rattle.gq_merging.specs.Helping.KeptTables.{tables_view}
use Rattle.gq_merging.specs.Helping.GroupViews.{groups_view}
use Rattle.gq_merging.specs.Helping.Views.{row_view, look_view}
use Rattle.gq_merging.proofs.MemberLemmas.{get_below}
use Rattle.gq_merging.proofs.KeptLemmas.{kept_still}
use Rattle.gq_merging.proofs.GroupSearch.{search_known, search_next, search_same}
use Rattle.gq_merging.proofs.search.search_on.Goals as goal

pub returns-then-was_there-clause-search : goal.returns-then-was_there-clause-search
returns-then-was_there-clause-search c = λ t passed first s.
    let within : c.args.place < length (groups_view c.args.groups.now.items) = omega (arith, c.requires.place, length-map c.args.groups.now.items (λ v. v.items)) in
    let was : WasThere (groups_view c.deref.result.now) c.args.place = c.was_there.ensures c.if-was_there.true in
    search_known (look_view c.args.look) passed c.requires.sets (sym (length-map c.args.look.rows.now row_view)) c.requires.size first c.args.faults.now.items (groups_view c.args.groups.now.items) c.args.place within
    (subst (λ gs. WasThere (groups_view gs) c.args.place) c.deref.ensures.value was) s

pub returns-clause-kept : goal.returns-clause-kept
returns-clause-kept c = λ t.
    kept_still (look_view c.args.look) c.look_at_group.new.faults.items c.drop_repeated.new.faults.items (groups_view c.look_at_group.new.groups.items) (groups_view c.look_at_group.new.groups.items) []
    (tables_view c.look_at_group.new.kept.tables.items) (λ fault h. (c.drop_repeated.ensures fault).1 h) (sym (append-nil (groups_view c.look_at_group.new.groups.items))) (c.in_ok-done.ensures.kept t)

pub returns-clause-search : goal.returns-clause-search
returns-clause-search c = λ t passed first s.
    let within : c.args.place < length (groups_view c.args.groups.now.items) = omega (arith, c.requires.place, length-map c.args.groups.now.items (λ v. v.items)) in
    let group = get_below (groups_view c.args.groups.now.items) c.args.place within in
    search_same (look_view c.args.look) passed c.requires.sets (sym (length-map c.args.look.rows.now row_view)) c.requires.size first c.look_at_group.new.faults.items c.drop_repeated.new.faults.items
    (groups_view c.look_at_group.new.groups.items) (c.args.place + 1) c.drop_repeated.ensures
    (search_next (look_view c.args.look) passed c.requires.sets (sym (length-map c.args.look.rows.now row_view)) c.requires.size first c.args.faults.now.items c.look_at_group.new.faults.items
    (groups_view c.args.groups.now.items) (groups_view c.look_at_group.new.groups.items) c.args.place group.0 within group.1 (c.in_ok-done.ensures.searched group.0 group.1 t) s)
