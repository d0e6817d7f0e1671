use Rattle.std.proofs.Common.{rules, ◌≡◌, None, replicate}
use Rattle.gq_table.proofs.IndexLemmas.{no_rows}
use Rattle.gq_table.proofs.index.Index.new.Goals as goal

pub returns : goal.returns
returns c =
    let free : c.in_ok-vec.field-0.items ≡ replicate c.buckets_for.result None = search rules in
    no_rows record { firsts = c.in_ok-vec.field-0; others = c.new.result } c.buckets_for.result c.buckets_for.ensures free c.new.ensures
