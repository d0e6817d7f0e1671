use Rattle.std.proofs.Common.{take}
use Rattle.gq_merging.specs.Helping.PartTables.{AreParts}
use Rattle.gq_merging.proofs.parts.parts_of.Given as goal

abbrev pub invariant-loop-fragments : goal.invariant-loop-fragments
invariant-loop-fragments l = AreParts (take l.fragments-index l.spreads) l.near.items l.far.items
