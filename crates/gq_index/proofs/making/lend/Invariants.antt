use Rattle.std.proofs.Common.{◌≡◌, ◌++◌, drop, map}
use Rattle.gq_index.proofs.making.lend.Given as goal

abbrev pub invariant-loop-file : goal.invariant-loop-file
invariant-loop-file l = map (λ f. f.now) l.lent.items ++ drop l.file-index l.files ≡ map (λ f. f.now) l.initial.lent.items ++ l.files
