use Rattle.std.proofs.Common.{◌-◌}
use Rattle.gq_text.proofs.Steps.{Behind}
use Rattle.gq_text.proofs.scan.position_after.Given as goal

abbrev pub invariant-characters : goal.invariant-characters
invariant-characters g l = Behind l.encoding (g.B.Bytes.contents l.bytes) l.offset l.at l.line l.character

abbrev pub decreases-characters : goal.decreases-characters
decreases-characters g l = l.offset - l.at
