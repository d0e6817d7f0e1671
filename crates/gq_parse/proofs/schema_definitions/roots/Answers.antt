use Rattle.gq_parse.proofs.UniqueTypeSystem.{unique_root, root_never}
use Rattle.gq_parse.proofs.schema_definitions.roots.Goals as goal

pub optional_many-requires-clause-unique : goal.optional_many-requires-clause-unique
optional_many-requires-clause-unique c = unique_root

pub optional_many-requires-clause-apart : goal.optional_many-requires-clause-apart
optional_many-requires-clause-apart c = root_never
