use Rattle.std.proofs.Common.{take}
use Rattle.std.specs.Option.{option_map}
use Rattle.gq_types.specs.Look.{types_view}
use Rattle.gq_merging.specs.FieldsMerge.{Differ}
use Rattle.gq_merging.specs.Helping.SearchTables.{IsEarliest}
use Rattle.gq_merging.specs.Helping.Views.{field_at, member_view, members_view}
use Rattle.gq_merging.proofs.earliest.earliest_other.Given as goal

abbrev pub invariant-loop-member : goal.invariant-loop-member
invariant-loop-member l =
    IsEarliest (λ m. Differ (types_view l.look.types.now) l.look.purpose (field_at l.one.it) m.field_at) (members_view (take l.member-index l.members)) (option_map member_view l.earliest)
