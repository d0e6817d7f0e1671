use Rattle.std.proofs.Common.{◌≡◌, ◌++◌, ◌*◌, drop}
use Rattle.gq_edit.specs.Helping.Ends.{placed}
use Rattle.gq_edit.proofs.positions.text_edits.Given as goal

abbrev pub invariant-loop-index : goal.invariant-loop-index
invariant-loop-index l = l.edits ++ placed (drop l.index l.replacements) (drop (2 * l.index) l.positions) ≡ placed l.replacements l.positions
