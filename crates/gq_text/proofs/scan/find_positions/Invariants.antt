use Rattle.gq_text.proofs.Further.{FoundUpTo}
use Rattle.gq_text.proofs.scan.find_positions.Given as goal

abbrev pub invariant-loop-offset : goal.invariant-loop-offset
invariant-loop-offset g l = FoundUpTo l.encoding (g.B.Bytes.contents l.bytes) l.offsets l.offset-index l.positions.items l.earlier l.position
