use Rattle.std.proofs.Common.{◌≡◌, map, take}
use Rattle.gq_reader.proofs.files.copy_keys.Given as goal

abbrev pub invariant-loop-file : goal.invariant-loop-file
invariant-loop-file l = l.keys.items ≡ map (λ file. file.key) (take l.file-index l.files)
