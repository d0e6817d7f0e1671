use Rattle.std.proofs.Common.{rules, ◌≡◌, ◌++◌, sym, ap, ◌∙◌, ◌<◌, ◌≤◌, length, get_or}
use Rattle.gq_graph.proofs.Searching.{row_at}
use Rattle.gq_merging.proofs.MemberSteps.{append_nothing}
use Rattle.gq_merging.proofs.PartLemmas.{row_past}
use Rattle.gq_merging.proofs.parts.put_row.Goals as goal

pub returns-in_ok-extend_from_slice : goal.returns-in_ok-extend_from_slice
returns-in_ok-extend_from_slice c =
    let inside : c.args.number < length c.args.table.now = search rules in
    let read : get_or c.args.table.now c.args.number c.index-table-number.result ≡ c.index-table-number.result = search rules in
    c.in_ok-extend_from_slice.ensures.items
    ∙ ap (λ ns. c.args.found.now.items ++ ns) (c.deref.ensures.value ∙ ap (λ v. v.items) (sym read) ∙ sym (row_at c.args.table.now c.args.number c.index-table-number.result inside))

pub returns-else-number-table : goal.returns-else-number-table
returns-else-number-table c =
    let past : length c.args.table.now ≤ c.args.number = search rules in
    sym (ap (λ ns. c.args.found.now.items ++ ns) (row_past c.args.table.now c.args.number past) ∙ append_nothing c.args.found.now.items)
