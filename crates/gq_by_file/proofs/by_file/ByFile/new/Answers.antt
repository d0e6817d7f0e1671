-- Nothing is known.
use Rattle.gq_by_file.specs.Own.{none}
use Rattle.gq_by_file.proofs.by_file.ByFile.new.Goals as goal

pub returns : goal.returns
returns c es rs = record { owned = rw c.new.ensures.items none; across = c.new-2.ensures es rs }
