use Rattle.std.proofs.Common.{◌≡◌, drop}
use Rattle.gq_types.specs.Joined.{interfaces_in_body}
use Rattle.gq_types.specs.Look.{types_view}
use Rattle.gq_type_system.specs.Helping.ImplementationsPlaces.{lacks_further}
use Rattle.gq_types.specs.LookUps.{any_part}
use Rattle.gq_type_system.proofs.implementations.lacks_interfaces.Given as goal

abbrev pub invariant-loop-part : goal.invariant-loop-part
invariant-loop-part l = any_part (λ i. lacks_further (types_view l.types) l.number i.text) interfaces_in_body (types_view l.types) (drop l.part-index l.parts) ≡ any_part (λ i. lacks_further (types_view l.types) l.number i.text) interfaces_in_body (types_view l.types) l.parts
