-- what is read so far are the readings of the documents so far
use Rattle.std.proofs.Common.{take}
use Rattle.gq_tree.specs.Readings.{unshared_view}
use Rattle.gq_parse.specs.Parsed.{AreParsed}
use Rattle.gq_parse.proofs.reader.read.Given as goal

abbrev pub invariant-loop-document : goal.invariant-loop-document
invariant-loop-document l = AreParsed (take l.document-index l.documents) (unshared_view l.readings.items)
