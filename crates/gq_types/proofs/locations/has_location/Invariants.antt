use Rattle.std.proofs.Common.{◌≡◌, drop}
use Rattle.std.specs.List.{list_any}
use Rattle.gq_tree.specs.Same.{same_locations}
use Rattle.gq_types.proofs.locations.has_location.Given as goal

abbrev pub invariant-loop-one : goal.invariant-loop-one
invariant-loop-one l = list_any (same_locations l.location) (drop l.one-index l.locations) ≡ list_any (same_locations l.location) l.locations
