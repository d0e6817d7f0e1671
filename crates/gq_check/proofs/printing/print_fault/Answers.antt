use Rattle.std.proofs.Common.{◌∙◌}
use Rattle.gq_check.proofs.WriteLemmas.{tells}
use Rattle.gq_check.proofs.printing.print_fault.Goals as goal

pub returns-clause-told : goal.returns-clause-told
returns-clause-told g c = tells c.send.result _ _ _ _ _ (c.as_bytes.ensures.value ∙ c.line.ensures) c.send.ensures.flag c.send.ensures.ok c.send.ensures.err
