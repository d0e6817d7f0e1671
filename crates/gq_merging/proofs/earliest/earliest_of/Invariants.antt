use Rattle.std.proofs.Common.{◌≡◌, true, take}
use Rattle.std.specs.Option.{option_map}
use Rattle.gq_types.specs.Look.{types_view}
use Rattle.gq_merging.specs.Helping.Comparisons.{may_differ}
use Rattle.gq_merging.specs.Helping.SearchTables.{IsEarliest}
use Rattle.gq_merging.specs.Helping.Views.{member_view, members_view}
use Rattle.gq_merging.proofs.earliest.earliest_of.Given as goal

abbrev pub invariant-loop-member : goal.invariant-loop-member
invariant-loop-member l =
    IsEarliest (λ m. may_differ (types_view l.look.types.now) l.look.purpose m.field_at ≡ true) (members_view (take l.member-index l.members)) (option_map member_view l.earliest)
