use Rattle.gq_merging.proofs.PartLemmas.{put_left, put_right}
use Rattle.gq_merging.proofs.parts.put_fragment.Goals as goal

pub returns-then-is_near : goal.returns-then-is_near
returns-then-is_near c = λ rest h k. put_left c.args.near.now.items c.args.far.now.items rest c.push.new.self.items c.args.fragment c.in_ok-push.ensures.items h k

pub returns : goal.returns
returns c = λ rest h k. put_right c.args.near.now.items c.args.far.now.items rest c.push-2.new.self.items c.args.fragment c.in_ok-push-2.ensures.items h k
