use Rattle.std.proofs.Common.{ap, []}
use Rattle.gq_types.specs.Look.{types_view}
use Rattle.gq_document.specs.Executable.{executable_view}
use Rattle.gq_rules.proofs.HalvesLemmas.{puts_all}
use Rattle.gq_rules.proofs.fields_by_threads.field_faults_by_threads.Goals as goal

pub returns : goal.returns
returns g c =
    puts_all (executable_view c.args.executable.now) (executable_view c.halves.result.0) (executable_view c.halves.result.1) [] c.in_ok-faults.faults.items
    c.halves.ensures.all (ap (λ types. types_view types.now) c.halves.ensures.types) c.in_ok-faults.ensures
