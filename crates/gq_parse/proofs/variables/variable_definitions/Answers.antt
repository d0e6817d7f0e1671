use Rattle.gq_parse.proofs.UniqueValues.{unique_variable_definition, variable_definition_or_close}
use Rattle.gq_parse.proofs.variables.variable_definitions.Goals as goal

pub optional_many-requires-clause-unique : goal.optional_many-requires-clause-unique
optional_many-requires-clause-unique c = unique_variable_definition

pub optional_many-requires-clause-apart : goal.optional_many-requires-clause-apart
optional_many-requires-clause-apart c = variable_definition_or_close
