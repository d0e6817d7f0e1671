use Rattle.std.proofs.Common.{take}
use Rattle.gq_types.specs.Look.{types_view}
use Rattle.gq_merging.specs.Helping.SetTables.{AreNumbered, IsEmptyAt}
use Rattle.gq_merging.specs.Helping.Views.{fields_at, sets_at, members_view}
use Rattle.gq_merging.proofs.rows.numbered.Given as goal

abbrev pub invariant-loop-field : goal.invariant-loop-field
invariant-loop-field l = record {
  empty : IsEmptyAt (sets_at l.sets.items) l.empty;
  members : AreNumbered (types_view l.types) (fields_at (take l.field-index l.fields)) (sets_at l.initial.sets.items) (sets_at l.sets.items) (members_view l.members.items);
}
