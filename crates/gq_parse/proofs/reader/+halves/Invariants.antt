-- how often the documents are halved yet, a step inside each half
use Rattle.std.proofs.Common.{◌+◌, ◌*◌}
use Rattle.gq_parse.proofs.reader.+halves.Given as goal

abbrev pub decreases-read_halves : goal.decreases-read_halves
decreases-read_halves g l = 2 * l.halvings

abbrev pub decreases-read_front : goal.decreases-read_front
decreases-read_front g l = 2 * l.left + 1

abbrev pub decreases-read_back : goal.decreases-read_back
decreases-read_back g l = 2 * l.left + 1
