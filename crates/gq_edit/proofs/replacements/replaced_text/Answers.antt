use Rattle.gq_edit.proofs.Making.{Made_start}
use Rattle.gq_edit.proofs.replacements.replaced_text.Goals as goal

pub loop-replacement-init : goal.loop-replacement-init
loop-replacement-init c = rw c.new-made.ensures.bytes (Made_start _ _ c.utf8.text c.requires.disjoint c.requires.fit)
