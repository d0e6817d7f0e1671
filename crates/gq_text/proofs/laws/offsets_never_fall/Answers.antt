use Rattle.gq_text.proofs.Rises.{offsets_never_fall}
use Rattle.gq_text.proofs.laws.offsets_never_fall.Goals as goal

pub returns : goal.returns
returns c = offsets_never_fall
