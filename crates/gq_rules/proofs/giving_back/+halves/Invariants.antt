-- how often the definitions are halved yet, a step inside each half
use Rattle.std.proofs.Common.{◌+◌, ◌*◌}
use Rattle.gq_rules.proofs.giving_back.+halves.Given as goal

abbrev pub decreases-give_back_halves : goal.decreases-give_back_halves
decreases-give_back_halves g l = 2 * l.halvings

abbrev pub decreases-give_front : goal.decreases-give_front
decreases-give_front g l = 2 * l.left + 1

abbrev pub decreases-give_others : goal.decreases-give_others
decreases-give_others g l = 2 * l.left + 1
