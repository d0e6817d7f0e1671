-- The parts are those of what the documents read as.
use Rattle.std.proofs.Common.{List, ◌∙◌, ap}
use Rattle.gq_tree.specs.Readings.{readings_view}
use Rattle.gq_index.specs.Views.{parts_shared}
use Rattle.gq_index.proofs.FileLemmas.{SharedParts}
use Rattle.gq_index.proofs.index.Index.of_readings.Goals as goal

pub returns : goal.returns
returns c are = c.in_ok-index.ensures (readings_view c.args.readings.now) are (ap (λ (ps : List SharedParts). parts_shared ps) c.deref.ensures.value ∙ c.in_ok-parts.ensures)
