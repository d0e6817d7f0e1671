use Rattle.std.proofs.Common.{◌≡◌, ◌∙◌, true, false, Some, Err, ap, sym}
use Rattle.std.specs.Prelude.{is_some}
use Rattle.gq_events.specs.Machine.{State}
use Rattle.gq_desk.specs.declared.driving.DriveFault.{DriveFault}
use Rattle.gq_desk.specs.declared.driving.DriveFault.TheVariants as drive
use Rattle.gq_desk.specs.Faults.{of_desk}
use Rattle.gq_desk.specs.Helping.Turns.{BreaksTurn}
use Rattle.gq_desk.proofs.Drives.{of_fault, took_turn, broke_turn, broke_step}
use Rattle.gq_desk.proofs.driving.take_turn.Goals as goal

pub returns-in_err-outs-clause-err : goal.returns-in_err-outs-clause-err
returns-in_err-outs-clause-err g c =
    let h = c.args.hands.now in
    let held = g.W.Sink.held c.args.writer.now in
    of_fault (λ fault. (s : State) → c.args.desk.now ≡ Some s → BreaksTurn g.H.Hands.takes g.H.Hands.refuses s c.args.event h held h held fault) c.from_residual.result (of_desk c.in_err-outs.field-0.0) c.from_residual.ensures.1
    (broke_step g.H.Hands.takes g.H.Hands.refuses c.steps_exist.ensures c.args.desk.now c.args.event h held c.step.result c.in_err-outs.field-0.0 c.in_err-outs.was c.step.ensures.only_failed)

-- what is loaded stops the session
pub returns-in-Ok-clause-err : goal.returns-in-Ok-clause-err
returns-in-Ok-clause-err g c =
    broke_turn g.H.Hands.takes g.H.Hands.refuses c.args.desk.now c.args.event c.in_ok-outs.outs.items c.step.new.self c.args.hands.now (g.W.Sink.held c.args.writer.now) c.deliver.new.hands (g.W.Sink.held c.deliver.new.writer) drive.TooMany
    c.in_ok-outs.ensures.step (c.in-Ok.ensures.ok, ap is_some (sym (rw c.deref.ensures.value at c.find_stop-stop.ensures)) ∙ sym c.if-is_some.ensures) (λ e. sym c.if-is_load.ensures)

pub returns-in-Ok-2-clause-ok : goal.returns-in-Ok-2-clause-ok
returns-in-Ok-2-clause-ok g c =
    took_turn g.H.Hands.takes g.H.Hands.refuses c.args.desk.now c.args.event c.in_ok-outs.outs.items c.step.new.self c.args.hands.now (g.W.Sink.held c.args.writer.now) c.deliver.new.hands (g.W.Sink.held c.deliver.new.writer) c.find_stop-stop.result
    c.in_ok-outs.ensures.step c.in-Ok-2.ensures.ok (rw c.deref.ensures.value at c.find_stop-stop.ensures) (λ some. absurd (let clash : false ≡ true = c.if-is_some.ensures ∙ some in cc))

pub returns-in-Ok-2-2-clause-ok : goal.returns-in-Ok-2-2-clause-ok
returns-in-Ok-2-2-clause-ok g c =
    took_turn g.H.Hands.takes g.H.Hands.refuses c.args.desk.now c.args.event c.in_ok-outs.outs.items c.step.new.self c.args.hands.now (g.W.Sink.held c.args.writer.now) c.deliver.new.hands (g.W.Sink.held c.deliver.new.writer) c.find_stop-stop.result
    c.in_ok-outs.ensures.step c.in-Ok-2.ensures.ok (rw c.deref.ensures.value at c.find_stop-stop.ensures) (λ some. sym c.if-is_load.ensures)

pub returns-in-Err-clause-err : goal.returns-in-Err-clause-err
returns-in-Err-clause-err g c =
    broke_turn g.H.Hands.takes g.H.Hands.refuses c.args.desk.now c.args.event c.in_ok-outs.outs.items c.step.new.self c.args.hands.now (g.W.Sink.held c.args.writer.now) c.deliver.new.hands (g.W.Sink.held c.deliver.new.writer) c.in-Err.fault
    c.in_ok-outs.ensures.step c.in-Err.ensures.err (λ e. absurd (c.deliver.ensures.no_load (c.in-Err.is ∙ ap Err e)))
