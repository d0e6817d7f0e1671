use Rattle.gq_parse.proofs.UniqueTypeSystem.{unique_field, field_never}
use Rattle.gq_parse.proofs.fields.field_definitions.Goals as goal

pub optional_many-requires-clause-unique : goal.optional_many-requires-clause-unique
optional_many-requires-clause-unique c = unique_field

pub optional_many-requires-clause-apart : goal.optional_many-requires-clause-apart
optional_many-requires-clause-apart c = field_never
