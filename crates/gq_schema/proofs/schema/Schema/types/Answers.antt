use Rattle.std.proofs.Common.{ap, subst}
use Rattle.gq_types.specs.Look.{types_view}
use Rattle.gq_schema.specs.SchemaOf.{HasNoFault}
use Rattle.gq_schema.proofs.schema.Schema.types.Goals as goal

-- the invariant of a schema
pub returns-clause-valid : goal.returns-clause-valid
returns-clause-valid c = subst HasNoFault (ap types_view c.self.view_is) c.self.invariant
