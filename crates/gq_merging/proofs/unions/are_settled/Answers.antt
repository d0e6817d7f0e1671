use Rattle.std.proofs.Common.{rules, ◌≤◌, length, arith}
use Rattle.gq_graph.specs.Reach.{row}
use Rattle.gq_types.specs.Look.{types_view}
use Rattle.gq_merging.specs.Helping.GroupTables.{IsSettled}
use Rattle.gq_merging.specs.Helping.GroupViews.{groups_view}
use Rattle.gq_merging.specs.Helping.Views.{rows_view}
use Rattle.gq_merging.proofs.UnionLemmas.{below_more}
use Rattle.gq_merging.proofs.unions.are_settled.Goals as goal

pub loop-class-init : goal.loop-class-init
loop-class-init c = λ n l. absurd (omega (arith, l))

pub loop-class-preserved : goal.loop-class-preserved
loop-class-preserved c =
    below_more (λ n. IsSettled (types_view c.args.tables.types.now) (rows_view c.args.tables.rows.now) (groups_view c.args.classes.now) (row c.args.classes.now n)) c.loop-class.class
    c.loop-class.invariant (c.in_ok-is_settled.ensures c.if-not-branch.false)

pub returns : goal.returns
returns c = λ t n l.
    let past : length c.args.classes.now ≤ c.loop-class.class = search rules in
    c.loop-class.invariant n (omega (arith, l, past))
