use Rattle.std.proofs.Common.{IfSome, subst}
use Rattle.gq_merging.specs.Helping.NameTables.{by_name_view}
use Rattle.gq_merging.specs.Helping.SearchTables.{AreInGroup, Searched}
use Rattle.gq_merging.specs.Helping.KeptTables.{IsTableOf, tables_view}
use Rattle.gq_merging.specs.Helping.GroupViews.{groups_view}
use Rattle.gq_merging.specs.Helping.Views.{rows_view, look_view}
use Rattle.gq_merging.proofs.KeptLemmas.{kept_put}
use Rattle.gq_merging.proofs.kept.table_of.Goals as goal

pub returns-clause-kept : goal.returns-clause-kept
returns-clause-kept c =
    let rows = rows_view c.args.look.rows.now in
    let table = subst (λ ns. IfSome c.in_ok-fields.field-0 (λ t. IsTableOf rows ns (by_name_view t))) c.deref-2.ensures.value c.in_ok-fields.ensures.table in
    let searched = subst (λ ns. IfSome c.in_ok-fields.field-0 (λ t. Searched (look_view c.args.look) (AreInGroup rows ns) c.args.faults.now.items c.look_at_reached.new.faults.items
    (groups_view c.args.groups.now.items) (groups_view c.look_at_reached.new.groups.items))) c.deref-2.ensures.value c.in_ok-fields.ensures.searched in
    kept_put (look_view c.args.look) (tables_view c.args.kept.now.tables.items) (tables_view c.put_table.new.kept.tables.items) c.in_ok-place.place
    (record { fragments = c.args.fragments.items; fields = by_name_view c.in-Some-2.fields }) c.args.faults.now.items c.look_at_reached.new.faults.items
    (groups_view c.args.groups.now.items) (groups_view c.look_at_reached.new.groups.items) c.in_ok-place.ensures
    (subst (λ o. IfSome o (λ t. IsTableOf rows c.args.fragments.items (by_name_view t))) c.in-Some-2.is table)
    (subst (λ o. IfSome o (λ t. Searched (look_view c.args.look) (AreInGroup rows c.args.fragments.items) c.args.faults.now.items c.look_at_reached.new.faults.items
    (groups_view c.args.groups.now.items) (groups_view c.look_at_reached.new.groups.items))) c.in-Some-2.is searched)
    c.requires.kept
