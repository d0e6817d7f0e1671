-- What defines no types defines nothing of the type system.
use Rattle.gq_kept.proofs.TypesLemmas.{nothing_at}
use Rattle.gq_kept.proofs.typed.defines_types_at.Goals as goal

pub returns : goal.returns
returns c e = nothing_at c.args.readings.now c.args.at c.index-readings-at.result c.index-readings-at.is (c.has_types.ensures e)
