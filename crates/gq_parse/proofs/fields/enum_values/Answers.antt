use Rattle.gq_parse.proofs.UniqueTypeSystem.{unique_enum_value, enum_value_never}
use Rattle.gq_parse.proofs.fields.enum_values.Goals as goal

pub optional_many-requires-clause-unique : goal.optional_many-requires-clause-unique
optional_many-requires-clause-unique c = unique_enum_value

pub optional_many-requires-clause-apart : goal.optional_many-requires-clause-apart
optional_many-requires-clause-apart c = enum_value_never
