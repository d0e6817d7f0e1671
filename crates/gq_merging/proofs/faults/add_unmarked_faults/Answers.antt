use Rattle.std.proofs.Common.{◌*◌, length, refl, ◌∙◌, sym}
use Rattle.gq_document.specs.Executable.{executable_view}
use Rattle.gq_merging.specs.Helping.Views.{rows_view}
use Rattle.gq_merging.proofs.MemberSteps.{passes_alike, count_alike}
use Rattle.gq_merging.proofs.GroupSearch.{sets_there}
use Rattle.gq_merging.proofs.FaultLemmas.{puts_all}
use Rattle.gq_merging.proofs.faults.add_unmarked_faults.Goals as goal

pub passed_rows-requires-clause-count : goal.passed_rows-requires-clause-count
passed_rows-requires-clause-count c = c.requires.merged.count ∙ sym (count_alike c.args.rows.now c.args.spreads.now c.requires.spreads)

pub add_faults_for-requires-clause-sets : goal.add_faults_for-requires-clause-sets
add_faults_for-requires-clause-sets c = sets_there (executable_view c.args.executable.now) (rows_view c.args.rows.now) c.requires.rows

pub add_faults_for-requires-2-clause-sets : goal.add_faults_for-requires-2-clause-sets
add_faults_for-requires-2-clause-sets c = sets_there (executable_view c.args.executable.now) (rows_view c.args.rows.now) c.requires.rows

pub returns : goal.returns
returns c =
    puts_all (executable_view c.args.executable.now) c.args.rows.now c.requires.rows c.args.marks.now c.requires.merged c.in_ok-passed.passed.items
    (passes_alike c.args.rows.now c.args.spreads.now c.requires.spreads c.args.marks.now c.in_ok-passed.passed.items c.in_ok-passed.ensures)
    (length c.args.rows.now * length c.args.rows.now) refl c.deref.result.now c.deref-2.result.now c.args.faults.now.items c.add_faults_for.new.faults.items c.add_faults_for-2.new.faults.items
    c.deref.ensures.value c.deref-2.ensures.value c.in_ok-add_faults_for.ensures c.in_ok-add_faults_for-2.ensures
