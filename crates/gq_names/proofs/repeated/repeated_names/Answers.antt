use Rattle.gq_names.proofs.Enumerated.{places_are, places_ascend, places_found}
use Rattle.gq_names.proofs.repeated.repeated_names.Goals as goal

pub returns-clause-repeated : goal.returns-clause-repeated
returns-clause-repeated c place =
    let found = places_found (λ name. name.now) c.loop-place.places.items _ c.loop-place.seen c.args.names.now c.loop-place.place c.loop-place-test.false c.loop-place.invariant in
    rw found (places_are (λ name. name.now) c.args.names.now place)

pub returns-clause-ascending : goal.returns-clause-ascending
returns-clause-ascending c =
    let found = places_found (λ name. name.now) c.loop-place.places.items _ c.loop-place.seen c.args.names.now c.loop-place.place c.loop-place-test.false c.loop-place.invariant in
    rw found (places_ascend (λ name. name.now) c.args.names.now)
