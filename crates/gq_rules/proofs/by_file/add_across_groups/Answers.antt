use Rattle.gq_fault.proofs.PutLemmas.{puts_both}
use Rattle.gq_rules.proofs.by_file.add_across_groups.Goals as goal

pub returns : goal.returns
returns c = puts_both _ _ _ _ _ (puts_both _ _ _ _ _ c.in_ok-add_definition_faults.ensures c.in_ok-add_merging_faults.ensures) c.in_ok-add_reach_faults.ensures
