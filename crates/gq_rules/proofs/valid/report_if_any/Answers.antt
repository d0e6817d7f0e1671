use Rattle.std.proofs.Common.{ap, length, arith}
use Rattle.std.proofs.lemmas.List.{nil_from_length}
use Rattle.std.proofs.lemmas.Bool.Decides.{nat_tests}
use Rattle.gq_rules.specs.AllFaults.{AreFaultsOf}
use Rattle.gq_rules.proofs.ValidityLemmas.{valid, invalid}
use Rattle.gq_rules.proofs.valid.report_if_any.Goals as goal

pub returns-then-is_empty : goal.returns-then-is_empty
returns-then-is_empty c = λ (d : AreFaultsOf c.args.project.now c.args.faults.now).
    valid c.args.project.now d.readings d.are_readings c.args.faults.now d.exact (nil_from_length _ (grind (arith, nat_tests)))

pub returns : goal.returns
returns c = λ (d : AreFaultsOf c.args.project.now c.args.faults.now).
    (c.in_ok-report.ensures d, invalid c.args.project.now d.readings d.are_readings c.args.faults.now d.exact (λ e. let l = ap length e in grind (arith, nat_tests)))
