-- The own faults of the file are found where something is noted of it.
use Rattle.std.proofs.lemmas.Result.{IfOk-weaker}
use Rattle.gq_tree.specs.Readings.{shared_view}
use Rattle.gq_types.specs.Look.{types_view}
use Rattle.gq_by_file.proofs.KnownOwnLemmas.{slot_found, slot_known}
use Rattle.gq_by_file.proofs.own.find_at.Goals as goal

pub returns-clause-own : goal.returns-clause-own
returns-clause-own c rs there are =
    let es = types_view c.args.types.now in
    let r = shared_view c.args.reading.now in
    slot_found es rs c.note.new.own.items c.args.file r there c.index_mut.result.now c.find_in.new.own c.in_ok-note.ensures.noted c.index_mut.ensures.value (c.in_ok-note.ensures.own es rs r there are) c.find_in.result c.find_in.ensures.ok c.find_in.ensures.err

pub returns-clause-found : goal.returns-clause-found
returns-clause-found c =
    let es = types_view c.args.types.now in
    let r = shared_view c.args.reading.now in
    IfOk-weaker c.find_in.result _ _
    (λ done found rs there are.
    slot_known es rs c.note.new.own.items c.args.file r there c.index_mut.result.now c.find_in.new.own c.in_ok-note.ensures.noted c.index_mut.ensures.value (c.in_ok-note.ensures.own es rs r there are) found)
    c.find_in.ensures.ok
