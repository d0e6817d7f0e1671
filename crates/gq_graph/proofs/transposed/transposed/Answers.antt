use Rattle.std.proofs.Common.{rules, ◌≡◌, ◌<◌, ◌≤◌, length, subst}
use Rattle.gq_graph.specs.Transposed.{Put}
use Rattle.gq_graph.proofs.Searching.{row_read}
use Rattle.gq_graph.proofs.Turning.{turned_starts, turned_next, turned_ends}
use Rattle.gq_graph.proofs.transposed.transposed.Goals as goal

pub loop-number-init : goal.loop-number-init
loop-number-init c =
    let e : length c.in_ok-back.back.items ≡ length c.args.rows.now = search rules in
    turned_starts c.args.rows.now c.in_ok-back.back.items e c.in_ok-back.ensures.empty

pub loop-number-preserved : goal.loop-number-preserved
loop-number-preserved c =
    let lt : c.loop-number.number < length c.args.rows.now = search rules in
    turned_next c.args.rows.now c.loop-number.number c.loop-number.back.items c.put_all.new.rows.items
    c.loop-number.invariant c.put_all.ensures.count
    (subst (λ l. Put l c.loop-number.number c.loop-number.back.items c.put_all.new.rows.items)
    (row_read c.args.rows.now c.loop-number.number c.index-rows-number.result c.deref.result.now lt
    c.index-rows-number.is c.deref.ensures.value)
    c.in_ok-put_all.ensures.put)

pub returns : goal.returns
returns c =
    let all : length c.args.rows.now ≤ c.loop-number.number = search rules in
    turned_ends c.args.rows.now c.loop-number.number c.loop-number.back.items c.loop-number.invariant all
