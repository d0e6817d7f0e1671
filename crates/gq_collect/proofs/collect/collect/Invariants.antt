use Rattle.std.proofs.Common.{drop, []}
use Rattle.gq_meaning.specs.Expand.{sets_of}
use Rattle.gq_meaning.specs.Helping.Gathers.{Continues}
use Rattle.gq_collect.specs.World.{definitions_in}
use Rattle.gq_collect.specs.Views.{setting_in, asked_all}
use Rattle.gq_collect.proofs.collect.collect.Given as goal

abbrev pub invariant-loop-taken : goal.invariant-loop-taken
invariant-loop-taken l =
    Continues (setting_in l.world l.object) (definitions_in l.world) (sets_of (asked_all l.group)) (sets_of (asked_all (drop l.taken-index l.group))) [] [] l.visited (asked_all l.out.items)
