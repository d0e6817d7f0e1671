use Rattle.std.proofs.Common.{refl, subst, sym, ◌∙◌, ap}
use Rattle.std.specs.Option.{IfSome}
use Rattle.gq_table.specs.Json.{row_in, rows_in}
use Rattle.gq_table.specs.Views.{row_view, rows_view}
use Rattle.gq_table_text.specs.Helping.ReadAs.{row_depth, BeginsWithRow, AreReadBefore}
use Rattle.gq_table_text.proofs.TokenLemmas.{all_read, map_push, none_read, one_more}
use Rattle.gq_table_text.proofs.rows.rows_to_end.Goals as goal

pub loop-alloc-init : goal.loop-alloc-init
loop-alloc-init c = subst (AreReadBefore rows_in row_depth c.args.reader.now c.args.reader.now) (sym (ap rows_view c.new-rows.ensures.items)) (none_read rows_in row_depth c.args.reader.now)

pub loop-alloc-preserved : goal.loop-alloc-preserved
loop-alloc-preserved c =
    let next = c.next_row.new.reader in
    let read = subst (λ o. IfSome o (λ row. BeginsWithRow c.take_end_array.new.self next (row_view row))) c.in-Some.is c.in_ok-row.ensures in
    let first = subst (λ ts. BeginsWithRow ts next (row_view c.in-Some.row)) c.loop-alloc-test.ensures.1 read in
    subst (AreReadBefore rows_in row_depth c.args.reader.now next) (sym (ap rows_view c.in_ok-push.ensures.items ∙ map_push row_view c.loop-alloc.rows.items c.in-Some.row))
    (one_more row_in rows_in (λ d ds. refl) row_depth c.args.reader.now c.loop-alloc.reader next (rows_view c.loop-alloc.rows.items) (row_view c.in-Some.row) c.loop-alloc.invariant
    c.loop-alloc-test.ensures.0 first)

pub returns : goal.returns
returns c = all_read rows_in refl row_depth c.args.reader.now c.loop-alloc.reader c.take_end_array.new.self (rows_view c.loop-alloc.rows.items) c.loop-alloc.invariant c.loop-alloc-test.ensures
