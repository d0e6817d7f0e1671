use Rattle.std.proofs.Common.{None, refl, arith}
use Rattle.gq_rpc.proofs.devices.write_retrying.Goals as goal

pub returns-clause-last : goal.returns-clause-last
returns-clause-last g c =
    let last = c.loop.invariant.1 (omega (arith, c.loop-test.false)) in
    record { before = last.0; answer = None; gave = last.1; is_told = refl }
