use Rattle.std.proofs.Common.{All, take}
use Rattle.gq_merging.specs.Helping.GroupViews.{groups_view}
use Rattle.gq_merging.specs.Helping.UnionTables.{IsInOne}
use Rattle.gq_merging.proofs.unions.are_in_classes.Given as goal

abbrev pub invariant-loop-group : goal.invariant-loop-group
invariant-loop-group l = All (IsInOne l.numbers) (groups_view (take l.group-index l.groups))
