use Rattle.std.proofs.Common.{drop}
use Rattle.gq_edit.proofs.Making.{Counted}
use Rattle.gq_edit.proofs.replacements.replaced_fits.Given as goal

abbrev pub invariant-loop-replacement : goal.invariant-loop-replacement
invariant-loop-replacement l = Counted l.text l.replacements l.at (drop l.replacement-index l.replacements) l.len
