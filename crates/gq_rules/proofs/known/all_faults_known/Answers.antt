use Rattle.std.proofs.Common.{refl}
use Rattle.gq_tree.specs.Readings.{readings_view}
use Rattle.gq_known.specs.Known.{IsKnown}
use Rattle.gq_rules.specs.Project.{executable_of}
use Rattle.gq_rules.proofs.DemandLemmas.{all_are}
use Rattle.gq_rules.proofs.known.all_faults_known.Goals as goal

pub returns : goal.returns
returns c = λ (k : IsKnown c.args.known).
    let readings = readings_view c.args.known.readings.now in
    all_are readings (executable_of readings) refl c.in_ok-faults.faults.items c.add_wrong_known.new.faults.items
    (c.in_ok-faults.ensures k) (c.in_ok-add_wrong_known.ensures k)
