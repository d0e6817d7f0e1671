use Rattle.std.proofs.Common.{subst, IfOk, []}
use denote.Param.Send.{sendable}
use Rattle.std.proofs.Crossing.{crosses}
use Rattle.gq_document.specs.Executable.{executable_view}
use Rattle.gq_document.proofs.Crossing.{Executable-sync}
use Rattle.gq_fault.specs.Adds.{AddsExactly}
use Rattle.gq_merging.specs.FieldsMerge.{IsMergingFault}
use Rattle.gq_rules.specs.Helping.RuleGroups.{IsDefinitionFault}
use Rattle.gq_rules.proofs.RuleLemmas.{puts_then_found}
use Rattle.gq_rules.proofs.wrong_by_threads.definition_and_merging_faults.Goals as goal

pub join-definitions-requires-send-F : goal.join-definitions-requires-send-F
join-definitions-requires-send-F g c κs within = search (sendable, crosses, Executable-sync) depth 12

pub returns : goal.returns
returns g c =
    let x = executable_view c.args.executable.now in
    puts_then_found (IsDefinitionFault x) (IsMergingFault x) [] c.in_ok-faults.faults.items c.in_ok-merging.field-0.items c.append.new.self.items
    (subst (λ r. IfOk r (λ faults. AddsExactly (IsDefinitionFault x) [] faults.items)) c.in_ok-faults.was c.join-definitions.ensures.first)
    (subst (λ r. IfOk r (λ faults. AddsExactly (IsMergingFault x) [] faults.items)) c.in_ok-merging.was c.join-definitions.ensures.second)
    c.in_ok-append.ensures.items
