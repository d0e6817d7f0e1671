use Rattle.std.proofs.Common.{◌-◌}
use Rattle.gq_text.proofs.Steps.{Ahead}
use Rattle.gq_text.proofs.scan.find_offset.Given as goal

abbrev pub invariant-lines : goal.invariant-lines
invariant-lines g l = Ahead l.encoding (g.B.Bytes.contents l.bytes) l.position l.at l.left l.position.character

abbrev pub decreases-lines : goal.decreases-lines
decreases-lines g l = l.len - l.at

abbrev pub invariant-characters : goal.invariant-characters
invariant-characters g l = Ahead l.fn.encoding (g.B.Bytes.contents l.bytes) l.fn.position l.at 0 l.room

abbrev pub decreases-characters : goal.decreases-characters
decreases-characters g l = l.len - l.at
