use Rattle.gq_laws.proofs.Placing.LinesApart.{lines_read_apart}
use Rattle.gq_laws.proofs.places.lines_read_apart.Goals as goal

pub returns : goal.returns
returns c = lines_read_apart
