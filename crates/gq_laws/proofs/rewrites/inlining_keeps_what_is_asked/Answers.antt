use Rattle.gq_laws.proofs.Rewriting.Located.{inline_restates}
use Rattle.gq_laws.proofs.rewrites.inlining_keeps_what_is_asked.Goals as goal

pub returns : goal.returns
returns c = inline_restates
