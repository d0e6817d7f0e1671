use Rattle.std.proofs.Common.{ℕ, ◌<◌}
use Rattle.gq_graph.specs.Reach.{row}
use Rattle.gq_types.specs.Look.{types_view}
use Rattle.gq_merging.specs.Helping.GroupTables.{IsSettled}
use Rattle.gq_merging.specs.Helping.GroupViews.{groups_view}
use Rattle.gq_merging.specs.Helping.Views.{rows_view}
use Rattle.gq_merging.proofs.unions.are_settled.Given as goal

abbrev pub invariant-loop-class : goal.invariant-loop-class
invariant-loop-class l = (n : ℕ) → n < l.class → IsSettled (types_view l.tables.types.now) (rows_view l.tables.rows.now) (groups_view l.classes) (row l.classes n)
