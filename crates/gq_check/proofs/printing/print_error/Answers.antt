use Rattle.std.proofs.Common.{refl}
use Rattle.gq_check.specs.Helping.Printed.{in_full, in_part}
use Rattle.gq_check.proofs.WriteLemmas.{wrote, wrote_in_part}
use Rattle.gq_check.proofs.printing.print_error.Goals as goal

pub returns-in-Ok : goal.returns-in-Ok
returns-in-Ok g c = in_full (wrote _ _ _ _ _ refl c.in-Ok.ensures.flag c.in-Ok.ensures.ok) refl

pub returns-in-Err : goal.returns-in-Err
returns-in-Err g c = in_part (wrote_in_part _ _ _ _ _ refl c.in-Err.ensures.flag c.in-Err.ensures.err) refl
