use Rattle.gq_text.proofs.Further.{found_none}
use Rattle.gq_text.proofs.scan.find_positions.Goals as goal

pub loop-offset-init : goal.loop-offset-init
loop-offset-init g c = rw c.in_ok-positions.ensures.items (found_none c.args.encoding (g.B.Bytes.contents c.args.bytes.now) c.args.offsets.now c.requires.utf8)
