-- the documents so far read so
use Rattle.std.proofs.Common.{take}
use Rattle.gq_tree.specs.Readings.{readings_view}
use Rattle.gq_parse.specs.Parsed.{AreParsed}
use Rattle.gq_kept.proofs.kept.Kept.readings_of.Given as goal

abbrev pub invariant-loop-doc : goal.invariant-loop-doc
invariant-loop-doc l = ∥ AreParsed (take l.doc-index l.documents) (readings_view l.readings.items) ∥₁
