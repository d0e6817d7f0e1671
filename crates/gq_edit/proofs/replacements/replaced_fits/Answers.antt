use Rattle.gq_edit.proofs.Making.{Counted_start}
use Rattle.gq_edit.proofs.replacements.replaced_fits.Goals as goal

pub loop-replacement-init : goal.loop-replacement-init
loop-replacement-init c = Counted_start _ _ c.utf8.text c.requires.disjoint c.requires.fit
