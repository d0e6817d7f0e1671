use Rattle.std.proofs.Common.{◌<◌, ◌≤◌, length, sym, subst, rules}
use Rattle.gq_table.specs.Rows.{has_repeated_call}
use Rattle.gq_table.specs.Views.{rows_view, row_view}
use Rattle.gq_table.specs.Helping.Index.{IsIndex}
use Rattle.gq_table.proofs.IndexLemmas.{row_at_place, all_taken, fresh_more, repeated, take_next, is_old, is_fresh}
use Rattle.gq_table.proofs.table.index_of.Goals as goal

pub returns-then-not-branch-clause-some : goal.returns-then-not-branch-clause-some
returns-then-not-branch-clause-some c =
    let rows = rows_view c.args.rows.now in
    let row = c.index-rows-number.result in
    let inside : c.loop-number.number < length c.args.rows.now = search rules in
    repeated rows c.loop-number.number (row_view row) (has_repeated_call rows) (row_at_place c.args.rows.now c.loop-number.number row inside c.index-rows-number.is) c.loop-number.invariant.fresh
    (is_old _ _ c.in_ok-put.ensures.new c.if-not-branch.true)

pub loop-number-preserved : goal.loop-number-preserved
loop-number-preserved c =
    let rows = rows_view c.args.rows.now in
    let row = c.index-rows-number.result in
    let inside : c.loop-number.number < length c.args.rows.now = search rules in
    let at = row_at_place c.args.rows.now c.loop-number.number row inside c.index-rows-number.is in
    record {
      index = subst (IsIndex c.put.new.self rows) (sym (take_next rows c.loop-number.number (row_view row) at)) (c.in_ok-put.ensures.index c.if-not-branch.false);
      fresh = fresh_more rows c.loop-number.number (row_view row) (has_repeated_call rows) at c.loop-number.invariant.fresh (is_fresh _ _ c.in_ok-put.ensures.new c.if-not-branch.false);
    }

pub put-requires-clause-place : goal.put-requires-clause-place
put-requires-clause-place c =
    let inside : c.loop-number.number < length c.args.rows.now = search rules in
    row_at_place c.args.rows.now c.loop-number.number c.index-rows-number.result inside c.index-rows-number.is

pub returns-clause-is : goal.returns-clause-is
returns-clause-is c =
    let past : length c.args.rows.now ≤ c.loop-number.number = search rules in
    subst (IsIndex c.loop-number.index (rows_view c.args.rows.now)) (all_taken c.args.rows.now c.loop-number.number past) c.loop-number.invariant.index
