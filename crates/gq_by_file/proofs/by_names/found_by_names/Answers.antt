use Rattle.gq_document.specs.Executable.{executable_view}
use Rattle.gq_by_file.specs.Helping.ByNames.{all_spreads}
use Rattle.gq_by_file.proofs.ByNamesLemmas.{names_told}
use Rattle.gq_by_file.proofs.by_names.found_by_names.Goals as goal

pub returns : goal.returns
returns c =
    names_told (executable_view c.args.executable.now) (all_spreads c.args.names.now) c.in_ok-faults.faults.items _ c.add_unused.new.faults.items _
    c.in_ok-faults.ensures c.in_ok-add_repeated.ensures c.in_ok-spread.ensures c.in_ok-add_unused.ensures c.faults_by_names_are_by_rules.ensures
