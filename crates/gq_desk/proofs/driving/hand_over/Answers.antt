use Rattle.std.proofs.lemmas.Iterator.Adapters.{YieldsList-from_vec}
use Rattle.std.proofs.lemmas.Iterator.Consumers.{YieldsList-so_far, YieldsList-turn}
use Rattle.gq_desk.proofs.Chains.{parted, handed_on, refused_at, on_err}
use Rattle.gq_desk.proofs.driving.hand_over.Goals as goal

pub loop-out-preserved : goal.loop-out-preserved
loop-out-preserved g c = record {
  handed = handed_on g.H.Hands.takes _ c.loop-out.yielded _ c.in-Some.out _ c.loop-out.invariant.handed c.in_ok-hand_on.ensures.ok;
}

pub returns-in_err-hand_on-clause-err : goal.returns-in_err-hand_on-clause-err
returns-in_err-hand_on-clause-err g c =
    let all = c.args.outs.items in
    let xs = c.loop-out.yielded in
    let so_far = YieldsList-so_far (YieldsList-from_vec all (cc) (cc)) xs c.loop-out.out-iterator c.loop-out.yielded_by in
    let next = YieldsList-turn (YieldsList-from_vec all (cc) (cc)) xs c.loop-out.out-iterator c.loop-out.yielded_by c.next.result c.next.new.self c.in-Some.out c.in-Some.is c.next.ensures.steps in
    on_err c.from_residual.result
    (refused_at g.H.Hands.takes g.H.Hands.refuses _ all xs c.in-Some.out _ _ _ (parted all xs c.in-Some.out so_far next) c.loop-out.invariant.handed c.in_err-hand_on.ensures.err)
