use Rattle.std.proofs.Common.{◌≡◌, drop}
use Rattle.gq_types.specs.Look.{types_view}
use Rattle.gq_query.specs.Helping.Gathered.{field_places_at, first_of}
use Rattle.gq_query.proofs.places.field_place_among.Given as goal

abbrev pub invariant-loop-number : goal.invariant-loop-number
invariant-loop-number l = first_of (field_places_at (types_view l.types) l.name) (drop l.number-index l.numbers) ≡ first_of (field_places_at (types_view l.types) l.name) l.numbers
