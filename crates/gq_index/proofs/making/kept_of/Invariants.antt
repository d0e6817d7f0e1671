use Rattle.std.proofs.Common.{◌≡◌, map, take}
use Rattle.std.specs.Arc.{arc_value}
use Rattle.gq_index.specs.Helping.Seats.{parts_of_files}
use Rattle.gq_index.proofs.making.kept_of.Given as goal

abbrev pub invariant-loop-file : goal.invariant-loop-file
invariant-loop-file l = map arc_value l.kept.items ≡ parts_of_files (take l.file-index l.files)
