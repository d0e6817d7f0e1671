-- What is told of texts, and what is put behind it.
use Rattle.gq_tree.specs.Readings.{unshared_view}
use Rattle.gq_by_file.proofs.ToldLemmas.{all_told}
use Rattle.gq_by_file.proofs.by_threads.faults_of.Goals as goal

pub returns : goal.returns
returns g c =
    all_told (unshared_view c.args.readings.now) c.in_ok-faults.faults.items c.add_wrong.new.faults.items c.in_ok-faults.ensures (c.in_ok-add_wrong.ensures c.in_ok-entries.ensures)
