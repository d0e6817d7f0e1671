use Rattle.gq_document.specs.Executable.{executable_view}
use Rattle.gq_merging.proofs.GroupLemmas.{tested_merged}
use Rattle.gq_merging.proofs.groups.merged_rows_by_threads.Goals as goal

pub returns : goal.returns
returns g c = tested_merged (executable_view c.args.executable.now) c.args.rows.now c.requires.rows c.in_ok-marks.marks.items c.in_ok-marks.ensures
