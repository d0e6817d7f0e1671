use Rattle.gq_diagnostics.proofs.PartingLemmas.{is_where}
use Rattle.gq_diagnostics.proofs.parting.place_near.Goals as goal

pub returns : goal.returns
returns c = is_where c.args.project.now c.args.key.now c.place.result c.place.ensures
