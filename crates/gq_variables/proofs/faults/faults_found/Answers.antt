use Rattle.std.proofs.Common.{◌≡◌, ◌+◌, arith, length, subst}
use Rattle.std.proofs.lemmas.List.{length-map}
use Rattle.gq_document.specs.Definitions.{operation_view, operations_view}
use Rattle.gq_document.specs.Executable.{executable_view}
use Rattle.gq_variables.specs.Helping.VariablePlaces.{AreFaultsBefore}
use Rattle.gq_variables.specs.Helping.Views.{uses_view, rows_view}
use Rattle.gq_variables.proofs.FaultLemmas.{finds_same, behind_next}
use Rattle.gq_variables.proofs.faults.faults_found.Goals as goal

pub go_on-requires-clause-before : goal.go_on-requires-clause-before
go_on-requires-clause-before c = c.loop-number.invariant.behind

pub loop-number-preserved : goal.loop-number-preserved
loop-number-preserved c = record {
  faults = finds_same (executable_view c.args.executable.now) (c.loop-number.number + 1) c.add_faults_at.new.faults.items c.put_once-most.new.faults.items c.in_ok-add_faults_at.ensures c.put_once-most.ensures;
  behind = behind_next (rows_view c.args.rows.now) c.args.parts.now.shared c.loop-number.number (uses_view c.go_on.new.self.uses.items) c.in_ok-go_on.ensures;
}

pub returns : goal.returns
returns c =
    let same = length-map c.args.executable.now.operations.now operation_view in
    let all : c.loop-number.number ≡ length (operations_view c.args.executable.now.operations.now) = omega (arith, c.loop-number-test.false, c.loop-number.auto.number-end, same) in
    subst (λ number. AreFaultsBefore (executable_view c.args.executable.now) number c.loop-number.found.items) all c.loop-number.invariant.faults
