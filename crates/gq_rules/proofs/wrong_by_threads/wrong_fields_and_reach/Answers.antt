use Rattle.std.proofs.Common.{subst, IfOk, []}
use denote.Param.Send.{sendable}
use Rattle.std.proofs.Crossing.{crosses}
use Rattle.gq_document.specs.Executable.{executable_view}
use Rattle.gq_document.proofs.Crossing.{Executable-sync}
use Rattle.gq_fields.specs.FieldFaults.{IsFieldFault}
use Rattle.gq_fault.specs.Adds.{AddsExactly}
use Rattle.gq_rules.specs.Helping.RuleGroups.{IsReachFault}
use Rattle.gq_rules.specs.Helping.Wrongs.{IsWrong}
use Rattle.gq_rules.proofs.RuleLemmas.{puts_then_found}
use Rattle.gq_rules.proofs.wrong_by_threads.wrong_fields_and_reach.Goals as goal

pub join-reach-requires-send-F : goal.join-reach-requires-send-F
join-reach-requires-send-F g c κs within = search (sendable, crosses, Executable-sync) depth 12

pub returns-in-TypeSystem : goal.returns-in-TypeSystem
returns-in-TypeSystem g c =
    let x = executable_view c.args.executable.now in
    subst (IsWrong IsFieldFault x) c.in-TypeSystem.is (subst (λ r. IfOk r (IsWrong IsFieldFault x)) c.in_ok-wrong.was c.join-reach.ensures.second)

pub returns-in_ok-append-in-Rules : goal.returns-in_ok-append-in-Rules
returns-in_ok-append-in-Rules g c =
    let x = executable_view c.args.executable.now in
    let wrong = subst (IsWrong IsFieldFault x) c.in-Rules.is (subst (λ r. IfOk r (IsWrong IsFieldFault x)) c.in_ok-wrong.was c.join-reach.ensures.second) in
    let reach = subst (λ r. IfOk r (λ faults. AddsExactly (IsReachFault x) [] faults.items)) c.in_ok-reach-in-Rules.was c.join-reach.ensures.first in (
      wrong.0,
      puts_then_found (IsFieldFault x) (IsReachFault x) [] c.in-Rules.faults.items c.in_ok-reach-in-Rules.field-0.items c.append.new.self.items
          wrong.1 reach c.in_ok-append-in-Rules.ensures.items,
    )
