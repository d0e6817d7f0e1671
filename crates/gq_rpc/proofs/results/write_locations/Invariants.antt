use Rattle.std.proofs.Common.{◌≡◌, map, take}
use Rattle.serde_json.specs.View.{view}
use Rattle.gq_rpc.specs.Encoding.{location_value}
use Rattle.gq_rpc.proofs.results.write_locations.Given as goal

abbrev pub invariant-loop-location : goal.invariant-loop-location
invariant-loop-location l = map view l.values.items ≡ map location_value (take l.location-index l.locations)
