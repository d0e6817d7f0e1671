use Rattle.gq_merging.specs.Helping.SearchTables.{Search}
use Rattle.gq_merging.specs.Helping.KeptTables.{AreKept, tables_view}
use Rattle.gq_merging.specs.Helping.PartTables.{AreParts}
use Rattle.gq_merging.specs.Helping.GroupViews.{groups_view}
use Rattle.gq_merging.specs.Helping.Views.{look_view}
use Rattle.gq_merging.proofs.search.search_groups.Given as goal

abbrev pub invariant-loop-done : goal.invariant-loop-done
invariant-loop-done l = Search (look_view l.look) l.passed (groups_view l.initial.groups.items) l.faults.items (groups_view l.groups.items) l.done
    × AreKept (look_view l.look) l.faults.items (groups_view l.groups.items) (tables_view l.notes.kept.tables.items)
    × AreParts l.look.spreads.now l.parts.near.items l.parts.far.items

abbrev pub decreases-loop-done : goal.decreases-loop-done
decreases-loop-done l = l.turns
