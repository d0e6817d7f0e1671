-- how often the files are halved yet, a step inside each half
use Rattle.std.proofs.Common.{◌+◌, ◌*◌}
use Rattle.gq_by_file.proofs.halves.+threads.Given as goal

abbrev pub decreases-found_by_threads : goal.decreases-found_by_threads
decreases-found_by_threads g l = 2 * l.halvings

abbrev pub decreases-find_front : goal.decreases-find_front
decreases-find_front g l = 2 * l.left + 1

abbrev pub decreases-find_back : goal.decreases-find_back
decreases-find_back g l = 2 * l.left + 1
