use Rattle.std.proofs.Common.{◌-◌}
use Rattle.gq_merging.specs.Helping.Views.{look_view}
use Rattle.gq_merging.proofs.SearchLemmas.{Search}
use Rattle.gq_merging.proofs.faults.add_faults_by_pairs.Given as goal

abbrev pub invariant-loop-done : goal.invariant-loop-done
invariant-loop-done l = Search (look_view l.look) l.passed l.initial.found.keys l.initial.faults.items l.faults.items l.found.keys l.done

abbrev pub decreases-loop-done : goal.decreases-loop-done
decreases-loop-done l = l.look.size - l.done
