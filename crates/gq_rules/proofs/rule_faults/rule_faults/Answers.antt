use Rattle.std.proofs.Common.{subst}
use Rattle.gq_document.specs.Executable.{executable_view}
use Rattle.gq_fault.specs.Adds.{AddsExactly}
use Rattle.gq_rules.specs.RuleFaults.{IsRuleFault}
use Rattle.gq_rules.proofs.RuleLemmas.{puts_groups}
use Rattle.gq_rules.proofs.rule_faults.rule_faults.Goals as goal

pub returns : goal.returns
returns c =
    let x = executable_view c.args.executable.now in
    subst (λ xs. AddsExactly (IsRuleFault x) xs c.add_reach_faults.new.faults.items) c.new-faults.ensures.items
    (puts_groups x _ _ _ _ _ c.in_ok-add_definition_faults.ensures c.in_ok-add_merging_faults.ensures c.in_ok-add_field_faults.ensures c.in_ok-add_reach_faults.ensures)
