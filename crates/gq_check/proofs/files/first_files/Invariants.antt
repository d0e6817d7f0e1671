use Rattle.std.proofs.Common.{◌≡◌, ◌++◌, drop, map}
use Rattle.gq_check.specs.Files.{distinct, distinct_after}
use Rattle.gq_check.proofs.files.first_files.Given as goal

-- the first ones so far, and those to come
abbrev pub invariant-loop-file : goal.invariant-loop-file
invariant-loop-file l = map (λ file. file.now) l.firsts.items ++ distinct_after l.names (drop l.file-index l.files) ≡ distinct l.files
