-- The set of all that the files lead to is closed.
use Rattle.std.proofs.Common.{ℕ, All, List, subst, sym}
use Rattle.gq_graph.specs.Reach.{Reach, row}
use Rattle.gq_tree.specs.Readings.{unshared_view}
use Rattle.gq_document.specs.Executable.{executable_view}
use Rattle.gq_by_file.proofs.ToldLemmas.{told_together}
use Rattle.gq_by_file.proofs.halves.found_together.Goals as goal

pub returns : goal.returns
returns c holds links =
    let x = executable_view c.args.files.executable.now in
    let rows = c.args.files.rows.now in
    told_together c.faults_of_closed_sets_are_faults.ensures x (unshared_view c.args.files.readings.now) rows c.args.rest.now c.in_ok-led.led.items
    c.in_ok-led.ensures.sound c.in_ok-led.ensures.complete c.deref.result.now c.deref.ensures.value links c.in_ok-faults.faults.items
    c.add_own_of_all.new.all.items (c.in_ok-faults.ensures x rows c.args.rest.now holds links.in_range (subst (λ (ns : List ℕ). All (λ n. Reach c.args.rest.now (row rows) n) ns) (sym c.deref.ensures.value) c.in_ok-led.ensures.sound)) c.in_ok-add_own_of_all.ensures
