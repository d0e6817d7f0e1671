use Rattle.std.proofs.Common.{◌≡◌, ◌++◌, drop}
use Rattle.gq_reshape.specs.Placed.{replacements_in}
use Rattle.gq_reshape.proofs.placed.replacements_in.Given as goal

abbrev pub invariant-loop-one : goal.invariant-loop-one
invariant-loop-one l = l.all.items ++ replacements_in (drop l.one-index l.placed) l.file ≡ replacements_in l.placed l.file
