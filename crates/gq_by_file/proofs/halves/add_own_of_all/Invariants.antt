-- what each of the files so far tells alone is put behind
use Rattle.std.proofs.Common.{take}
use Rattle.gq_tree.specs.Readings.{unshared_view}
use Rattle.gq_types.specs.Look.{types_view}
use Rattle.gq_fault.specs.Adds.{AddsExactly}
use Rattle.gq_by_file.specs.Helping.Told.{IsOwnOf}
use Rattle.gq_by_file.proofs.halves.add_own_of_all.Given as goal

abbrev pub invariant-loop-file : goal.invariant-loop-file
invariant-loop-file l = AddsExactly (IsOwnOf (types_view l.types) (unshared_view l.readings) (take l.file-index l.files)) l.initial.all.items l.all.items
