use Rattle.gq_select.proofs.RunLemmas.{run_found, run_later}
use Rattle.gq_select.proofs.runs.len_to.Goals as goal

pub returns-then-place_of-end-clause-run : goal.returns-then-place_of-end-clause-run
returns-then-place_of-end-clause-run c = run_found c.args.selections.now c.loop-index.index c.args.end c.loop-index-test.true c.index-selections-index.result c.index-selections-index.is c.place_of.result c.place_of.ensures c.loop-index.invariant c.if-place_of-end.true

pub loop-index-preserved : goal.loop-index-preserved
loop-index-preserved c = run_later c.args.selections.now c.loop-index.index c.args.end c.loop-index-test.true c.index-selections-index.result c.index-selections-index.is c.place_of.result c.place_of.ensures c.loop-index.invariant c.if-place_of-end.false
