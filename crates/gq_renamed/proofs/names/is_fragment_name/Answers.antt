use Rattle.gq_renamed.proofs.Spellings.{spelled_is_name}
use Rattle.gq_renamed.proofs.names.is_fragment_name.Goals as goal

pub returns : goal.returns
returns c = rw c.is_free_name.ensures (spelled_is_name c.args.text.now)
