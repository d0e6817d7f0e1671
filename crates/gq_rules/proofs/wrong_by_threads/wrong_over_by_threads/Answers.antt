use Rattle.std.proofs.Common.{subst, IfOk, []}
use denote.Param.Send.{sendable}
use Rattle.std.proofs.Crossing.{send, sync}
use Rattle.gq_document.specs.Executable.{executable_view}
use Rattle.gq_document.proofs.Crossing.{Executable-sync}
use Rattle.gq_fault.specs.Adds.{AddsExactly}
use Rattle.gq_rules.specs.Helping.RuleGroups.{IsDefinitionOrMergingFault, IsOtherFault}
use Rattle.gq_rules.specs.Helping.Wrongs.{IsWrong}
use Rattle.gq_rules.proofs.RuleLemmas.{puts_rules}
use Rattle.gq_rules.proofs.WrongLemmas.{schema_over, rules_over}
use Rattle.gq_rules.proofs.wrong_by_threads.wrong_over_by_threads.Goals as goal

pub join-definitions-requires-send-F : goal.join-definitions-requires-send-F
join-definitions-requires-send-F g c κs within = search (sendable, send, sync, Executable-sync) depth 12

pub returns-in-TypeSystem : goal.returns-in-TypeSystem
returns-in-TypeSystem g c =
    let x = executable_view c.args.executable.now in
    let wrong = subst (IsWrong IsOtherFault x) c.in-TypeSystem.is (subst (λ r. IfOk r (IsWrong IsOtherFault x)) c.in_ok-wrong.was c.join-definitions.ensures.second) in
    schema_over x c.in-TypeSystem.wrong.items wrong.1 wrong.0

-- where nothing is wrong with the type system
pub returns-in_ok-append-in-Rules : goal.returns-in_ok-append-in-Rules
returns-in_ok-append-in-Rules g c =
    let x = executable_view c.args.executable.now in
    let wrong = subst (IsWrong IsOtherFault x) c.in-Rules.is (subst (λ r. IfOk r (IsWrong IsOtherFault x)) c.in_ok-wrong.was c.join-definitions.ensures.second) in
    let definitions = subst (λ r. IfOk r (λ faults. AddsExactly (IsDefinitionOrMergingFault x) [] faults.items)) c.in_ok-faults-in-Rules.was c.join-definitions.ensures.first in
    rules_over x c.append.new.self.items wrong.0
    (puts_rules x c.in_ok-faults-in-Rules.faults.items c.in-Rules.others.items c.append.new.self.items definitions wrong.1 c.in_ok-append-in-Rules.ensures.items)
