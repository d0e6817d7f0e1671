use Rattle.std.proofs.Common.{◌++◌, drop}
use Rattle.gq_types.specs.Helping.Index.{AreLocationsOf}
use Rattle.gq_types.proofs.locations.distinct.Given as goal

-- what was kept, and what is left
abbrev pub invariant-loop-location : goal.invariant-loop-location
invariant-loop-location l = AreLocationsOf l.locations (l.kept.items ++ drop l.location-index l.locations)
