use Rattle.std.proofs.Common.{◌-◌, arith}
use Rattle.gq_variables.proofs.behind.goes_on.Goals as goal

pub returns : goal.returns
returns c = λ same. (c.args.number - 1, omega (arith, c.if-number-eq0.false), c.spread_the_same.ensures same)
