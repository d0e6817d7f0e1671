-- the names in the documents so far are there
use Rattle.std.proofs.Common.{take}
use Rattle.gq_document.specs.ReadBy.{read_by}
use Rattle.gq_by_file.specs.Names.{AreNames}
use Rattle.gq_by_file.proofs.names.names_of_all.Given as goal

abbrev pub invariant-loop-reading : goal.invariant-loop-reading
invariant-loop-reading g l = AreNames (read_by g.R.AsParsed.as_parsed (take l.reading-index l.readings)) l.all.items
