use Rattle.std.proofs.Common.{◌+◌, ◌*◌, length}
use Rattle.gq_by_file.proofs.covers.+halves.Given as goal

abbrev pub decreases-cover_by_halves : goal.decreases-cover_by_halves
decreases-cover_by_halves l = 2 * length l.rest.now

abbrev pub decreases-cover_half : goal.decreases-cover_half
decreases-cover_half l = 2 * length l.half.now + 1
