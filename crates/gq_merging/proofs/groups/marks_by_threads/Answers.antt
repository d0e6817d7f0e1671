use Rattle.std.proofs.Common.{sym, subst, IfOk}
use denote.Param.Send.{sendable}
use Rattle.std.proofs.Crossing.{crosses}
use Rattle.gq_types.specs.Look.{types_view}
use Rattle.gq_merging.specs.Helping.GroupTables.{AreTested}
use Rattle.gq_merging.specs.Helping.Views.{rows_view}
use Rattle.gq_merging.proofs.Crossing.{Tables-sync}
use Rattle.gq_merging.proofs.ThreadLemmas.{both_tested}
use Rattle.gq_merging.proofs.groups.marks_by_threads.Goals as goal

pub join-front-requires-send-F : goal.join-front-requires-send-F
join-front-requires-send-F g c κs within = search (sendable, crosses, Tables-sync) depth 12

pub returns : goal.returns
returns g c =
    let es = types_view c.args.tables.types.now in
    let rows = rows_view c.args.tables.rows.now in
    let of_front = subst (λ r. IfOk r (λ marks. AreTested es rows marks.items)) c.in_ok-marks.was c.join-front.ensures.first in
    let of_back = subst (λ r. IfOk r (λ marks. AreTested es rows marks.items)) c.in_ok-back.was c.join-front.ensures.second in
    both_tested es rows c.in_ok-marks.marks.items c.deref.result.now c.put_marks.new.marks.items c.put_marks.ensures.count c.put_marks.ensures.marked
    of_front (subst (AreTested es rows) (sym c.deref.ensures.value) of_back)
