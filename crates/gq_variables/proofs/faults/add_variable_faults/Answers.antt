use Rattle.std.proofs.Common.{arith, ap, ◌++◌, ◌∙◌, length, List}
use Rattle.gq_fault.specs.declared.fault.Fault.{Fault}
use Rattle.gq_fault.proofs.PutLemmas.{puts_list}
use Rattle.gq_document.specs.Executable.{executable_view}
use Rattle.gq_variables.specs.Helping.VariablePlaces.{IsFaultBefore}
use Rattle.gq_variables.proofs.FaultLemmas.{puts_all}
use Rattle.gq_variables.proofs.LeadingLemmas.{rows_below, lead_in_parts}
use Rattle.gq_variables.proofs.faults.add_variable_faults.Goals as goal

pub take_own-requires : goal.take_own-requires
take_own-requires c = rows_below c.in_ok-shared.shared.of_operations.items (length c.in_ok-shared.shared.of_fragments.items) c.in_ok-shared.ensures.starts

pub faults_found-requires-clause-spreads : goal.faults_found-requires-clause-spreads
faults_found-requires-clause-spreads c =
    lead_in_parts (executable_view c.args.executable.now) c.in_ok-shared.shared c.take_own.new.spreads c.in_ok-own.own.items c.in_ok-shared.ensures c.in_ok-own.ensures

pub returns : goal.returns
returns c =
    let x = executable_view c.args.executable.now in
    let old = c.args.faults.now.items in
    puts_all x (length x.operations) old c.extend_from_slice.new.self.items (omega arith)
    (puts_list (IsFaultBefore x (length x.operations)) old c.extend_from_slice.new.self.items c.in_ok-found.found.items
    (c.in_ok-extend_from_slice.ensures.items ∙ ap (λ (l : List Fault). old ++ l) c.deref-3.ensures.value) c.in_ok-found.ensures)
