use Rattle.gq_renamed.proofs.Spellings.{spelled_as_name}
use Rattle.gq_renamed.proofs.names.is_name.Goals as goal

pub returns : goal.returns
returns c = rw c.is_spelled.ensures (spelled_as_name c.args.text.now)
