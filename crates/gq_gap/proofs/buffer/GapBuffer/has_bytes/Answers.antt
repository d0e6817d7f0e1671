use Rattle.gq_gap.proofs.Halves.{front_tells, rest_tells}
use Rattle.gq_gap.proofs.buffer.GapBuffer.has_bytes.Goals as goal

pub returns-then-eq : goal.returns-then-eq
returns-then-eq c =
    rest_tells c.args.bytes.now c.halves.result.0.now c.halves.result.1.now c.args.self.now.bytes c.halves.ensures c.split_at.result.0.now c.split_at.result.1.now c.eq.result c.eq-then-eq.result
    c.split_at.ensures.front c.split_at.ensures.back c.eq.ensures c.if-eq.true c.eq-then-eq.ensures

pub returns-else-eq : goal.returns-else-eq
returns-else-eq c =
    front_tells c.args.bytes.now c.halves.result.0.now c.halves.result.1.now c.args.self.now.bytes c.halves.ensures c.split_at.result.0.now c.eq.result c.split_at.ensures.front c.eq.ensures c.if-eq.false
