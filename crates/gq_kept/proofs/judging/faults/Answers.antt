-- What is told first is all, where there is something; else what is told by files.
use Rattle.std.proofs.Common.{ap, length, arith}
use Rattle.std.proofs.lemmas.Bool.Decides.{nat_tests}
use Rattle.std.proofs.lemmas.List.{nil_from_length}
use Rattle.std.proofs.lemmas.Result.{IfOk-weaker}
use Rattle.gq_tree.specs.Readings.{readings_view}
use Rattle.gq_kept.proofs.JudgingLemmas.{first_alone, nothing_first}
use Rattle.gq_kept.proofs.judging.faults.Goals as goal

pub returns-then-not-is_empty-clause-faults : goal.returns-then-not-is_empty-clause-faults
returns-then-not-is_empty-clause-faults c known owned f =
    first_alone (readings_view c.args.known.readings.now) c.in_ok-first.first.items (λ e. let l = ap length e in grind (arith, nat_tests)) (c.in_ok-first.ensures known) f

pub returns-clause-faults : goal.returns-clause-faults
returns-clause-faults c =
    IfOk-weaker c.faults_by_files.result _ _
    (λ faults are known owned.
    are known owned (nothing_first (readings_view c.args.known.readings.now) c.in_ok-first.first.items (nil_from_length _ (grind (arith, nat_tests))) (c.in_ok-first.ensures known)))
    c.faults_by_files.ensures.faults
