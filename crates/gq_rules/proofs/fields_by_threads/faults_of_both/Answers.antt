use Rattle.std.proofs.Common.{subst, IfOk, []}
use denote.Param.Send.{sendable}
use Rattle.std.proofs.Crossing.{crosses}
use Rattle.gq_document.specs.Executable.{executable_view}
use Rattle.gq_document.proofs.Crossing.{Executable-sync}
use Rattle.gq_fields.specs.FieldFaults.{IsFieldFault}
use Rattle.gq_fault.specs.Adds.{AddsExactly}
use Rattle.gq_rules.proofs.RuleLemmas.{puts_then_found}
use Rattle.gq_rules.proofs.fields_by_threads.faults_of_both.Goals as goal

pub join-found-requires-send-F : goal.join-found-requires-send-F
join-found-requires-send-F g c κs within = search (sendable, crosses, Executable-sync) depth 12

pub returns : goal.returns
returns g c =
    let a = executable_view c.args.first.now in
    let b = executable_view c.args.other.now in
    puts_then_found (IsFieldFault a) (IsFieldFault b) [] c.in_ok-faults.faults.items c.in_ok-others.field-0.items c.append.new.self.items
    (subst (λ r. IfOk r (λ faults. AddsExactly (IsFieldFault a) [] faults.items)) c.in_ok-faults.was c.join-found.ensures.first)
    (subst (λ r. IfOk r (λ faults. AddsExactly (IsFieldFault b) [] faults.items)) c.in_ok-others.was c.join-found.ensures.second)
    c.in_ok-append.ensures.items
