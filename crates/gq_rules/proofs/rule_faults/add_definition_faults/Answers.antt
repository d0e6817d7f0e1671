use Rattle.gq_fault.proofs.PutLemmas.{puts_both}
use Rattle.gq_rules.proofs.rule_faults.add_definition_faults.Goals as goal

pub returns : goal.returns
returns c = puts_both _ _ _ _ _ c.in_ok-add_operation_faults.ensures c.in_ok-add_fragment_faults.ensures
