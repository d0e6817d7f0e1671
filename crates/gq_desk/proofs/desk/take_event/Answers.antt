use Rattle.std.proofs.Common.{List, subst, sym}
use Rattle.std.proofs.lemmas.Result.{on_ok_weaker}
use Rattle.gq_events.specs.declared.documents.SessionDocument.{SessionDocument}
use Rattle.gq_events.specs.Documents.{docs_of}
use Rattle.gq_events.specs.Keeping.{IsKeptOf}
use Rattle.gq_desk.proofs.Current.{still_kept}
use Rattle.gq_desk.proofs.Stepping.{stepped, from_none}
use Rattle.gq_desk.proofs.desk.take_event.Goals as goal

pub bring-requires-clause-kept : goal.bring-requires-clause-kept
bring-requires-clause-kept c =
    subst (λ (documents : List SessionDocument). IsKeptOf c.follow.new.self (docs_of documents)) (sym c.documents-3.ensures)
    (still_kept c.args.workers c.args.session.now c.take_in.new.self c.in_ok-denied.denied c.effect-effect.result c.in_ok-rest.rest c.args.keeping.now c.follow.new.self c.settle.new.outs.items c.take_in.new.outs.items
    c.in_ok-rest.ensures.rest c.in_ok-task.ensures.own c.follow.ensures c.requires.kept)

pub returns-clause-kept : goal.returns-clause-kept
returns-clause-kept c = on_ok_weaker c.hand_on.result (λ _. subst (λ (documents : List SessionDocument). IsKeptOf c.bring.new.keeping (docs_of documents)) c.documents-3.ensures c.bring.ensures.kept) c.hand_on.ensures.jobs

pub returns-clause-steps : goal.returns-clause-steps
returns-clause-steps c =
    stepped (record { session = c.args.session.now; workers = c.args.workers; jobs = c.args.jobs.now }) c.args.event c.effect-effect.result c.in_ok-rest.rest c.in_ok-denied.denied c.in_ok-task.task
    c.settle.new.outs.items c.take_in.new.outs.items c.bring.new.outs.items c.hand_on.new.outs.items c.take_in.new.self c.settle.new.self c.bring.new.jobs c.hand_on.new.self c.hand_on.result
    c.effect-effect.ensures (rw c.pending.ensures at c.in_ok-denied.ensures) c.in_ok-rest.ensures.rest
    (rw c.documents-2.ensures at c.in_ok-rest.ensures.jobs)
    (from_none _ _ _ c.requires.empty (rw c.documents-2.ensures at c.in_ok-rest.ensures.outs))
    c.in_ok-task.ensures.task c.in_ok-task.ensures.own
    c.in_ok-bring.ensures.jobs (rw c.documents-3.ensures at c.in_ok-bring.ensures.outs)
    c.hand_on.ensures.jobs c.hand_on.ensures.outs
