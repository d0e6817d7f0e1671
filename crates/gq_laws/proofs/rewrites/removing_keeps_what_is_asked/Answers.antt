use Rattle.gq_laws.proofs.Rewriting.Located.{remove_restates}
use Rattle.gq_laws.proofs.rewrites.removing_keeps_what_is_asked.Goals as goal

pub returns : goal.returns
returns c = remove_restates
