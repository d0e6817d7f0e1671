use Rattle.gq_query.proofs.Telling.{schema_known, no_schema_known}
use Rattle.gq_query.proofs.schemas.schema_of.Goals as goal

pub returns-then-known : goal.returns-then-known
returns-then-known c is = schema_known c.args.known is c.if-known.true

pub returns-else-known : goal.returns-else-known
returns-else-known c is = no_schema_known c.args.known (c.documents_have_one_type_system.ensures.one c.args.known.project.now) is c.if-known.false
