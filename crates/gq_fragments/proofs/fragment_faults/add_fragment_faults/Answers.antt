use Rattle.std.proofs.lemmas.Result.{on_ok_weaker}
use Rattle.gq_fault.proofs.PutLemmas.{puts_list}
use Rattle.gq_document.specs.Executable.{executable_view}
use Rattle.gq_fragments.specs.FragmentFaults.{IsFragmentFault}
use Rattle.gq_fragments.specs.Helping.FragmentPlaces.{fragment_faults}
use Rattle.gq_fragments.proofs.FragmentLemmas.{fragment_faults_are}
use Rattle.gq_fragments.proofs.fragment_faults.add_fragment_faults.Goals as goal

pub returns : goal.returns
returns c =
    let x = executable_view c.args.executable.now in
    on_ok_weaker c.add_each_rule.result
    (λ is. puts_list (IsFragmentFault x) c.args.faults.now.items c.add_each_rule.new.faults.items (fragment_faults x) is (fragment_faults_are x))
    c.add_each_rule.ensures
