use Rattle.std.proofs.Common.{◌≡◌, ◌++◌, map, take, drop, length}
use Rattle.gq_events.specs.declared.event.Out.TheVariants as output
use Rattle.gq_events.specs.Machine.{room_for}
use Rattle.gq_desk.proofs.jobs.hand_on.Given as goal

-- what is done and what is left is the whole
abbrev pub invariant-loop-alloc : goal.invariant-loop-alloc
invariant-loop-alloc l = record {
  numbers : l.out.items ++ map (λ job. job.number) (take (room_for l.out.items) l.waiting.items) ≡ l.fn.out.items ++ map (λ job. job.number) (take (room_for l.fn.out.items) l.fn.waiting.items);
  left : drop (room_for l.out.items) l.waiting.items ≡ drop (room_for l.fn.out.items) l.fn.waiting.items;
  told : l.outs.items ++ map output.Job (take (room_for l.out.items) l.waiting.items) ≡ l.fn.outs.items ++ map output.Job (take (room_for l.fn.out.items) l.fn.waiting.items);
}

abbrev pub decreases-loop-alloc : goal.decreases-loop-alloc
decreases-loop-alloc l = length l.waiting.items
