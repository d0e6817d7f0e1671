use Rattle.std.proofs.Common.{◌+◌, ◌*◌, drop}
use Rattle.gq_meaning.specs.Selected.{none}
use Rattle.gq_meaning.specs.Views.{before, set_in}
use Rattle.gq_meaning.specs.Helping.Gathers.{Continues}
use Rattle.gq_meaning.proofs.Steps.{way}
use Rattle.gq_collect.specs.World.{definitions_in}
use Rattle.gq_collect.specs.Views.{setting_in, asked_all}
use Rattle.gq_collect.proofs.collect.+collect.Given as goal

-- what is left to go through, the set before its selections
abbrev pub decreases-collect_set : goal.decreases-collect_set
decreases-collect_set l = 2 * way (definitions_in l.world) l.visited.now (set_in l.set.now) + 1

abbrev pub decreases-collect_one : goal.decreases-collect_one
decreases-collect_one l = 2 * way (definitions_in l.world) l.visited.now (before l.selection.now none)

abbrev pub invariant-collect_set-loop-selection : goal.invariant-collect_set-loop-selection
invariant-collect_set-loop-selection l =
    Continues (setting_in l.world l.object) (definitions_in l.world) (set_in l.set) (set_in (drop l.selection-index l.set)) l.fn.visited (asked_all l.fn.out.items) l.visited (asked_all l.out.items)
