use Rattle.std.proofs.Common.{◌≡◌, ap, sym, ◌∙◌, map}
use Rattle.std.specs.List.{flat_map}
use Rattle.gq_merging.specs.Helping.NameTables.{by_name_view}
use Rattle.gq_merging.specs.Helping.SetTables.{members_at}
use Rattle.gq_merging.specs.Helping.GroupViews.{groups_view}
use Rattle.gq_merging.specs.Helping.Views.{members_view, rows_view, look_view}
use Rattle.gq_merging.proofs.ClassSearch.{seen, seen_of_one_key}
use Rattle.gq_merging.proofs.KeptLemmas.{group_table, group_searched}
use Rattle.gq_merging.proofs.kept.look_at_reached.Goals as goal

pub look_at_classes-requires : goal.look_at_classes-requires
look_at_classes-requires c = record {
  one_key = λ list there.
      seen_of_one_key c.deref-3.result.now (by_name_view c.in_ok-table.table) (ap (map seen) (sym c.deref-3.ensures.value)) (members_view c.deref-2.result.now) c.in_ok-table.ensures list there;
}

pub returns-clause-table : goal.returns-clause-table
returns-clause-table c =
    let members : members_view c.deref-2.result.now ≡ flat_map (members_at (rows_view c.args.look.rows.now)) c.in_ok-found.found.items =
    ap members_view c.deref-2.ensures.value ∙ c.in_ok-members.ensures ∙ ap (flat_map (members_at (rows_view c.args.look.rows.now))) c.deref.ensures.value in
    group_table c.args.look.rows.now c.args.look.spreads.now c.requires.spreads c.args.fragments.now c.in_ok-found.found.items (members_view c.deref-2.result.now)
    c.in_ok-found.ensures.sound c.in_ok-found.ensures.complete members (by_name_view c.in_ok-table.table) c.in_ok-table.ensures

pub returns-clause-searched : goal.returns-clause-searched
returns-clause-searched c =
    let members : members_view c.deref-2.result.now ≡ flat_map (members_at (rows_view c.args.look.rows.now)) c.in_ok-found.found.items =
    ap members_view c.deref-2.ensures.value ∙ c.in_ok-members.ensures ∙ ap (flat_map (members_at (rows_view c.args.look.rows.now))) c.deref.ensures.value in
    group_searched c.args.look.rows.now c.args.look.spreads.now c.requires.spreads c.args.fragments.now c.in_ok-found.found.items (members_view c.deref-2.result.now)
    c.in_ok-found.ensures.sound c.in_ok-found.ensures.complete members (look_view c.args.look) c.deref-3.result.now (by_name_view c.in_ok-table.table) (ap (map seen) (sym c.deref-3.ensures.value)) c.in_ok-table.ensures
    c.args.faults.now.items c.look_at_classes.new.faults.items (groups_view c.args.groups.now.items) (groups_view c.look_at_classes.new.groups.items) (c.in_ok-look_at_classes.ensures c.if-not-branch.false)
