-- What is told of all selections is told of those with a type condition.
use Rattle.std.proofs.Common.{◌++◌, List, append_assoc, ap, ◌∙◌}
use Rattle.std.specs.Prelude.{flat_map}
use Rattle.std.proofs.lemmas.Result.{on_ok_weaker}
use Rattle.gq_fault.specs.declared.fault.Fault.{Fault}
use Rattle.gq_fault.proofs.PutLemmas.{puts_list}
use Rattle.gq_document.specs.Executable.{executable_view}
use Rattle.gq_fragments.specs.ConditionFaults.{IsConditionFault}
use Rattle.gq_fragments.specs.Helping.FragmentPlaces.{conditions_in_fragment, conditions_in_operation, conditions_of_fragments, conditions_of_all}
use Rattle.gq_fragments.proofs.TypeConditionLemmas.{conditions_are}
use Rattle.gq_fragments.proofs.InlineConditionLemmas.{all_inline}
use Rattle.gq_fragments.proofs.condition_faults.add_condition_faults.Goals as goal

pub returns : goal.returns
returns c =
    let x = executable_view c.args.executable.now in
    let old = c.args.faults.now.items in
    let own : List Fault = conditions_of_fragments x.entries x.fragments in
    let of_operations : List Fault = flat_map (conditions_in_operation x.entries) x.operations in
    let of_fragments : List Fault = flat_map (conditions_in_fragment x.entries) x.fragments in
    on_ok_weaker c.add_conditions_in_fragments.result
    (λ is. puts_list (IsConditionFault x) old c.add_conditions_in_fragments.new.faults.items (conditions_of_all x)
    (is
    ∙ ap (λ (l : List Fault). l ++ of_fragments) (c.in_ok-add_conditions_in_operations.ensures ∙ ap (λ (l : List Fault). l ++ of_operations) c.in_ok-add_conditions_of_fragments.ensures)
    ∙ append_assoc (old ++ own) of_operations of_fragments
    ∙ append_assoc old own (of_operations ++ of_fragments)
    ∙ ap (λ (l : List Fault). old ++ (own ++ l)) (all_inline x))
    (conditions_are x))
    c.add_conditions_in_fragments.ensures
