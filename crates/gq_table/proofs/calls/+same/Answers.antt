use Rattle.std.proofs.Common.{sym, ap, ◌∙◌}
use Rattle.gq_table.specs.Views.{value_view, entry_view}
use Rattle.gq_table.proofs.SameLemmas.{null_alike, rows_apart, alike_values, other_names}
use Rattle.gq_table.proofs.Trees.{view_null}
use Rattle.gq_table.proofs.calls.+same.Goals as goal

pub same_value-returns-in-Null : goal.same_value-returns-in-Null
same_value-returns-in-Null t c = c.is_null.ensures ∙ null_alike c.args.a.now c.args.b.now (ap value_view c.in-Null.is ∙ view_null)

pub same_values-returns-then-a-b : goal.same_values-returns-then-a-b
same_values-returns-then-a-b t c = sym (rows_apart value_view c.args.a.now c.args.b.now c.if-a-b.true)

pub same_entries-returns-then-a-b : goal.same_entries-returns-then-a-b
same_entries-returns-then-a-b t c = sym (rows_apart entry_view c.args.a.now c.args.b.now c.if-a-b.true)

pub same_entry-returns : goal.same_entry-returns
same_entry-returns t c =
    alike_values c.args.a.now.name c.args.b.now.name c.args.a.now.value c.args.b.now.value c.same_name.result c.same_value.result c.same_name.ensures c.if-not-same_name.false c.same_value.ensures

pub same_entry-returns-then-not-same_name : goal.same_entry-returns-then-not-same_name
same_entry-returns-then-not-same_name t c =
    other_names c.args.a.now.name c.args.b.now.name c.args.a.now.value c.args.b.now.value c.same_name.result c.same_name.ensures c.if-not-same_name.true
