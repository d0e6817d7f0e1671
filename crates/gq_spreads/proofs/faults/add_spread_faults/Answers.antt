use Rattle.std.proofs.lemmas.Result.{on_ok_weaker}
use Rattle.gq_document.specs.Executable.{executable_view}
use Rattle.gq_spreads.proofs.FaultLemmas.{puts_faults}
use Rattle.gq_spreads.proofs.faults.add_spread_faults.Goals as goal

pub returns : goal.returns
returns c =
    on_ok_weaker c.add_fragment_cycles.result
    (λ puts. puts_faults (executable_view c.args.executable.now) c.args.faults.now.items c.add_unused_fragments.new.faults.items c.add_unknown_fragments.new.faults.items c.add_fragment_cycles.new.faults.items
    c.in_ok-add_unused_fragments.ensures c.in_ok-add_unknown_fragments.ensures puts)
    c.add_fragment_cycles.ensures
