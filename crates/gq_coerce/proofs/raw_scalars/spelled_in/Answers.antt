use Rattle.std.proofs.Common.{arith, ◌≤◌, length}
use Rattle.gq_coerce.proofs.RawReadings.{several_entries}
use Rattle.gq_coerce.proofs.raw_scalars.spelled_in.Goals as goal

pub returns-in-len2-up : goal.returns-in-len2-up
returns-in-len2-up c = several_entries c.args.entries.now (omega arith)
