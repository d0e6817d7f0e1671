use Rattle.std.proofs.Common.{◌≡◌, take}
use Rattle.gq_events.proofs.copies.copy_texts.Given as goal

abbrev pub invariant-loop-text : goal.invariant-loop-text
invariant-loop-text l = l.copy ≡ take l.text-index l.texts
