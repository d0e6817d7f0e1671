use Rattle.std.proofs.Common.{refl}
use Rattle.gq_check.specs.Checks.{output_fails}
use Rattle.gq_check.proofs.VerdictLemmas.{ends_after}
use Rattle.gq_check.proofs.WriteLemmas.{wrote, wrote_in_part}
use Rattle.gq_check.proofs.printing.print.Goals as goal

pub returns-in-Ok : goal.returns-in-Ok
returns-in-Ok g c = ends_after _ _ _ _ _ _ _ _ (wrote _ _ _ _ _ refl c.in-Ok.ensures.flag c.in-Ok.ensures.ok) c.print_error.ensures

pub returns-in-Err : goal.returns-in-Err
returns-in-Err g c = output_fails (wrote_in_part _ _ _ _ _ refl c.in-Err.ensures.flag c.in-Err.ensures.err) c.print_fault.ensures.told c.print_fault.ensures.status
