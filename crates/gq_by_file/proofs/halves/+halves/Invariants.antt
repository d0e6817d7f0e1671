use Rattle.std.proofs.Common.{◌+◌, ◌*◌, length}
use Rattle.gq_by_file.proofs.halves.+halves.Given as goal

abbrev pub decreases-found_by_halves : goal.decreases-found_by_halves
decreases-found_by_halves l = 2 * length l.rest.now

abbrev pub decreases-found_of_half : goal.decreases-found_of_half
decreases-found_of_half l = 2 * length l.half.now + 1
