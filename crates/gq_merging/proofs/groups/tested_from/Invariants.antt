use Rattle.gq_types.specs.Look.{types_view}
use Rattle.gq_merging.specs.Helping.GroupTables.{IsTest}
use Rattle.gq_merging.specs.Helping.Views.{rows_view}
use Rattle.gq_merging.specs.Helping.GroupViews.{groups_view}
use Rattle.gq_merging.proofs.groups.tested_from.Given as goal

abbrev pub invariant-loop-done : goal.invariant-loop-done
invariant-loop-done l = IsTest (types_view l.tables.types.now) (rows_view l.tables.rows.now) (groups_view l.groups.items) l.done l.reached.items

abbrev pub decreases-loop-done : goal.decreases-loop-done
decreases-loop-done l = l.notes.left.steps
