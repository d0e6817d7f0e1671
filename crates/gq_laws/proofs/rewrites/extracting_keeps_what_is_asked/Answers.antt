use Rattle.gq_laws.proofs.Rewriting.Located.{extract_restates}
use Rattle.gq_laws.proofs.rewrites.extracting_keeps_what_is_asked.Goals as goal

pub returns : goal.returns
returns c = extract_restates
