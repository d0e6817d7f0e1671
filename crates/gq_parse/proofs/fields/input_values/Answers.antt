use Rattle.gq_parse.proofs.UniqueTypeSystem.{unique_input}
use Rattle.gq_parse.proofs.MadeFields.{closes_no_input}
use Rattle.gq_parse.proofs.fields.input_values.Goals as goal

pub optional_many-requires-clause-unique : goal.optional_many-requires-clause-unique
optional_many-requires-clause-unique c = unique_input

pub optional_many-requires-clause-apart : goal.optional_many-requires-clause-apart
optional_many-requires-clause-apart c = closes_no_input _ c.requires.closing
