use Rattle.std.proofs.Common.{rules}
use Rattle.gq_merging.proofs.NameLemmas.{none_listed}
use Rattle.gq_merging.proofs.by_name.FieldsByName.new.Goals as goal

pub returns : goal.returns
returns c said = none_listed said _ (search rules) (search rules)
