use Rattle.gq_parse.proofs.UniqueValues.{unique_argument, argument_or_close}
use Rattle.gq_parse.proofs.values.arguments.Goals as goal

pub optional_many-requires-clause-unique : goal.optional_many-requires-clause-unique
optional_many-requires-clause-unique c = unique_argument _

pub optional_many-requires-clause-apart : goal.optional_many-requires-clause-apart
optional_many-requires-clause-apart c = argument_or_close _
