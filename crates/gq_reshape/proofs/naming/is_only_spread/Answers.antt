use Rattle.std.proofs.Common.{ap, length, nat_eq, List}
use Rattle.gq_index.specs.Occurrences.{executables}
use Rattle.gq_index.specs.declared.occurrence.Occurrence.{Occurrence}
use Rattle.gq_reshape.proofs.naming.is_only_spread.Goals as goal

pub returns : goal.returns
returns c readings is = ap (λ (os : List Occurrence). nat_eq (length os) 1) (c.spreads.ensures (executables readings) is)
