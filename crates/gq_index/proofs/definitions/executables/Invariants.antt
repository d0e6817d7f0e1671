use Rattle.std.proofs.Common.{◌≡◌, ◌++◌, drop}
use Rattle.std.specs.List.{flat_map, enumerate_from}
use Rattle.gq_tree.specs.Readings.{in_document, readings_view}
use Rattle.gq_index.specs.Occurrences.{executable_in, executables}
use Rattle.gq_index.specs.Views.{definitions_view}
use Rattle.gq_index.proofs.definitions.executables.Given as goal

abbrev pub invariant-loop-file : goal.invariant-loop-file
invariant-loop-file l =
    definitions_view l.all.items ++ flat_map (λ r. in_document executable_in r.0 r.1) (enumerate_from l.file (readings_view (drop l.file l.readings))) ≡ executables (readings_view l.readings)
