use Rattle.std.proofs.lemmas.Result.{on_ok_weaker}
use Rattle.gq_document.specs.Executable.{executable_view}
use Rattle.gq_spreads.proofs.UnknownLemmas.{puts_unknown}
use Rattle.gq_spreads.proofs.fragment_spread_target_defined.add_unknown_fragments.Goals as goal

pub returns : goal.returns
returns c =
    on_ok_weaker c.add_unknown_in_fragments.result
    (λ is. puts_unknown (executable_view c.args.executable.now) c.args.names.now.names.items c.args.faults.now.items c.add_unknown_in_operations.new.faults.items c.add_unknown_in_fragments.new.faults.items
    c.requires.names c.in_ok-add_unknown_in_operations.ensures is)
    c.add_unknown_in_fragments.ensures
