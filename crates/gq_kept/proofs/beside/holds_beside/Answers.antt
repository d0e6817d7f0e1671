use Rattle.std.proofs.lemmas.Result.{IfOk-weaker}
use Rattle.gq_kept.proofs.beside.holds_beside.Goals as goal

pub returns : goal.returns
returns c = IfOk-weaker c.holds.result _ _ (λ holds tells es differs was. tells) c.holds.ensures
