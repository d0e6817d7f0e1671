use Rattle.std.proofs.Common.{take}
use Rattle.std.specs.List.{AllZip}
use Rattle.gq_executor.specs.Helping.Plans.{IsPrepared}
use Rattle.gq_executor.proofs.plans.calls_of_groups.Given as goal

abbrev pub invariant-loop-group : goal.invariant-loop-group
invariant-loop-group l = AllZip (λ g p. IsPrepared l.world l.object g.items p) (take l.group-index l.groups) l.calls.items
