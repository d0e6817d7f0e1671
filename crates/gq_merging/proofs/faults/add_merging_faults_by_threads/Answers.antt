use Rattle.gq_document.specs.Executable.{executable_view}
use Rattle.gq_merging.proofs.MemberSteps.{spreads_seen_in_range}
use Rattle.gq_merging.proofs.faults.add_merging_faults_by_threads.Goals as goal

pub merged_rows_by_threads-requires-clause-range : goal.merged_rows_by_threads-requires-clause-range
merged_rows_by_threads-requires-clause-range g c κs within =
    spreads_seen_in_range (executable_view c.args.executable.now) c.in_ok-rows.rows.items c.deref.result.now c.in_ok-spreads.spreads.items c.deref-3.result.now
    c.in_ok-rows.ensures c.in_ok-spreads.ensures c.deref.ensures.value c.deref-3.ensures.value

pub add_unmarked_faults-requires-clause-range : goal.add_unmarked_faults-requires-clause-range
add_unmarked_faults-requires-clause-range g c =
    spreads_seen_in_range (executable_view c.args.executable.now) c.in_ok-rows.rows.items c.deref.result.now c.in_ok-spreads.spreads.items c.deref-5.result.now
    c.in_ok-rows.ensures c.in_ok-spreads.ensures c.deref.ensures.value c.deref-5.ensures.value
