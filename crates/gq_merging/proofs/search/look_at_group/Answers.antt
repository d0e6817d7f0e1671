use Rattle.std.proofs.Common.{rules, ◌≡◌, ◌<◌, All, IfSome, Some, length, map, ap, sym, subst, ◌∙◌}
use Rattle.std.specs.List.{flat_map}
use Rattle.std.proofs.lemmas.Option.{same_Some}
use Rattle.gq_graph.specs.Reach.{InRange, row}
use Rattle.gq_merging.specs.Helping.NameTables.{by_name_view}
use Rattle.gq_merging.specs.Helping.SetTables.{members_at}
use Rattle.gq_merging.specs.Helping.SearchTables.{AreInGroup, Searched}
use Rattle.gq_merging.specs.Helping.KeptTables.{AreKept, AreMetBesideOne, IsTableAt, tables_view}
use Rattle.gq_merging.specs.Helping.GroupViews.{groups_view}
use Rattle.gq_merging.specs.Helping.Views.{members_view, rows_view, look_view}
use Rattle.gq_merging.proofs.ClassLemmas.{group_at}
use Rattle.gq_merging.proofs.ClassSearch.{seen, seen_of_one_key}
use Rattle.gq_merging.proofs.KeptLemmas.{by_their_keys, table_within, table_here, kept_on, group_told}
use Rattle.gq_merging.proofs.PartLemmas.{near_in_range, far_in_range, all_below, parts_told, split_by_parts, split_as}
use Rattle.gq_merging.proofs.search.look_at_group.Goals as goal

pub with_near-requires : goal.with_near-requires
with_near-requires c = subst InRange (sym c.deref.ensures.value) (near_in_range c.args.look.spreads.now c.args.parts.now.near.items c.args.parts.now.far.items c.requires.parts c.requires.reach)

pub table_of-requires-clause-fragments : goal.table_of-requires-clause-fragments
table_of-requires-clause-fragments c =
    let count = length c.args.look.spreads.now in
    all_below c.deref-4.result.now count c.deref-5.result.now c.in_ok-fragments.fragments.items
    (subst (λ t. All (λ v. All (λ n. n < count) v.items) t) (sym c.deref-4.ensures.value) (far_in_range c.args.look.spreads.now c.args.parts.now.near.items c.args.parts.now.far.items c.requires.parts c.requires.reach))
    c.in_ok-fragments.ensures

pub index-table-requires : goal.index-table-requires
index-table-requires c =
    let at = subst (λ o. IfSome o (λ p. IsTableAt (tables_view c.table_of.new.kept.tables.items) p c.in_ok-fragments.fragments.items)) c.in-Some.is c.in_ok-place.ensures.table in
    let within : c.in-Some.place < length c.table_of.new.kept.tables.items = table_within (look_view c.args.look) c.table_of.new.kept.tables.items c.in-Some.place c.in_ok-fragments.fragments.items at in
    search (rules, within)

pub look_at_besides-requires-clause-one_key : goal.look_at_besides-requires-clause-one_key
look_at_besides-requires-clause-one_key c list there =
    seen_of_one_key c.deref-7.result.now (by_name_view c.in_ok-by_key.by_key) (ap (map seen) (sym c.deref-7.ensures.value)) (members_view c.deref-6.result.now) c.in_ok-by_key.ensures list there

pub look_at_besides-requires-clause-table : goal.look_at_besides-requires-clause-table
look_at_besides-requires-clause-table c =
    let w = look_view c.args.look in
    let ts = c.table_of.new.kept.tables.items in
    let fragments = c.in_ok-fragments.fragments.items in
    let at = subst (λ o. IfSome o (λ p. IsTableAt (tables_view ts) p fragments)) c.in-Some.is c.in_ok-place.ensures.table in
    let kept = subst (λ o. IfSome o (λ p. AreKept w c.table_of.new.faults.items (groups_view c.table_of.new.groups.items) (tables_view ts))) c.in-Some.is c.in_ok-place.ensures.kept in
    by_their_keys (rows_view c.args.look.rows.now) fragments (by_name_view c.index-table.result.now.fields)
    (table_here w c.table_of.new.faults.items (groups_view c.table_of.new.groups.items) ts c.in-Some.place c.index-table.result.now fragments c.index-table.ensures at kept)

pub returns-clause-kept : goal.returns-clause-kept
returns-clause-kept c = λ t.
    let w = look_view c.args.look in
    let ts = c.table_of.new.kept.tables.items in
    let kept = subst (λ o. IfSome o (λ p. AreKept w c.table_of.new.faults.items (groups_view c.table_of.new.groups.items) (tables_view ts))) c.in-Some.is c.in_ok-place.ensures.kept in
    kept_on w (AreMetBesideOne (map seen c.deref-7.result.now) (by_name_view c.index-table.result.now.fields)) c.table_of.new.faults.items c.look_at_besides.new.faults.items
    (groups_view c.table_of.new.groups.items) (groups_view c.look_at_besides.new.groups.items) (tables_view ts) (c.in_ok-done.ensures t) kept

pub returns-clause-searched : goal.returns-clause-searched
returns-clause-searched c = λ group there t.
    let w = look_view c.args.look in
    let rows = rows_view c.args.look.rows.now in
    let ts = c.table_of.new.kept.tables.items in
    let sets = c.in_ok-sets.sets.items in
    let fragments = c.in_ok-fragments.fragments.items in
    let table = by_name_view c.index-table.result.now.fields in
    let at = subst (λ o. IfSome o (λ p. IsTableAt (tables_view ts) p fragments)) c.in-Some.is c.in_ok-place.ensures.table in
    let kept = subst (λ o. IfSome o (λ p. AreKept w c.table_of.new.faults.items (groups_view c.table_of.new.groups.items) (tables_view ts))) c.in-Some.is c.in_ok-place.ensures.kept in
    let reached = subst (λ o. IfSome o (λ p. Searched w (AreInGroup rows fragments) c.args.faults.now.items c.table_of.new.faults.items (groups_view c.args.groups.now.items) (groups_view c.table_of.new.groups.items))) c.in-Some.is c.in_ok-place.ensures.searched in
    let is = table_here w c.table_of.new.faults.items (groups_view c.table_of.new.groups.items) ts c.in-Some.place c.index-table.result.now fragments c.index-table.ensures at kept in
    let group_is : c.deref-2.result.now ≡ group =
    same_Some c.deref-2.result.now group (ap Some c.deref-2.ensures.value ∙ sym (group_at c.args.groups.now.items c.args.place c.index.result.now c.requires.place c.index.ensures) ∙ there) in
    let own : members_view c.deref-6.result.now ≡ flat_map (members_at rows) sets =
    ap members_view c.deref-6.ensures.value ∙ c.in_ok-own.ensures ∙ ap (flat_map (members_at rows)) c.deref-3.ensures.value in
    let spread : fragments ≡ flat_map (row c.deref-4.result.now) sets = c.in_ok-fragments.ensures ∙ ap (flat_map (row c.deref-4.result.now)) c.deref-5.ensures.value in
    let split = split_as rows c.deref-2.result.now group (flat_map (members_at rows) sets) (members_view c.deref-6.result.now) (flat_map (row c.deref-4.result.now) sets) fragments group_is own spread
    (split_by_parts rows (row c.deref.result.now) (row c.deref-4.result.now)
    (parts_told c.args.look.rows.now c.args.look.spreads.now c.args.parts.now.near.items c.args.parts.now.far.items c.deref.result.now c.deref-4.result.now c.requires.spreads c.requires.parts
    c.deref.ensures.value c.deref-4.ensures.value)
    c.deref-2.result.now sets c.in_ok-sets.ensures.sound c.in_ok-sets.ensures.complete) in
    group_told rows group (members_view c.deref-6.result.now) fragments split c.deref-7.result.now (by_name_view c.in_ok-by_key.by_key) (ap (map seen) (sym c.deref-7.ensures.value))
    c.in_ok-by_key.ensures table is w
    c.args.faults.now.items c.table_of.new.faults.items c.look_at_besides.new.faults.items (groups_view c.args.groups.now.items) (groups_view c.table_of.new.groups.items) (groups_view c.look_at_besides.new.groups.items)
    reached (c.in_ok-done.ensures t)
