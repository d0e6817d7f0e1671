use Rattle.std.proofs.Common.{◌≡◌, inl, inr, [], Err, Some, ap, ◌∙◌}
use Rattle.gq_desk.proofs.Standing.{stands_new}
use Rattle.gq_workers.specs.Ends.{collected, desk_on}
use Rattle.gq_crew.specs.Helping.Ends.{fault_at}
use Rattle.gq_crew.proofs.Desking.{drives, closes, fails, said}
use Rattle.gq_crew.proofs.desk_side.drive_desk.Goals as goal

pub returns-in-Ok : goal.returns-in-Ok
returns-in-Ok g c = λ workers is.
    said _ _ _ _ _ _ _ _ c.failed.ensures
    (closes _ (λ d. record { on = desk_on d.end; collected = collected d.end; ended = d.ended }) (λ a r b s. s) _ (λ x y z. ⊥) workers c.args.deliveries.now c.drive.new.events c.requires.fresh c.requires.going c.drive.new.desk c.args.hands.now
    c.drive.new.hands (g.K.Sink.held c.args.output.now) (record { held = g.K.Sink.held c.drive.new.writer; failed = g.K.Sink.failed c.drive.new.writer }) c.in-Ok.field-0
    (c.in-Ok.ensures.ok workers [] (stands_new workers _ is)))

pub returns-in-Ok-2 : goal.returns-in-Ok-2
returns-in-Ok-2 g c = λ workers is.
    drives _ (λ d. record { on = desk_on d.end; collected = collected d.end; ended = d.ended }) (λ a r b s. s) _ (λ x y z. ⊥) workers c.args.deliveries.now c.drive.new.events c.requires.fresh c.requires.going c.drive.new.desk c.args.hands.now
    c.drive.new.hands (g.K.Sink.held c.args.output.now) (record { held = g.K.Sink.held c.drive.new.writer; failed = g.K.Sink.failed c.drive.new.writer }) c.in-Ok.field-0 c.if-deliveries.false
    (c.in-Ok.ensures.ok workers [] (stands_new workers _ is))

pub returns-in-Err : goal.returns-in-Err
returns-in-Err g c = λ workers new.
    said _ _ _ _ _ _ _ _ (c.failed-in-Err.ensures ∙ ap (λ f. record { status = 3; fault = Some f }) c.fault_at.ensures)
    (fails _ (λ d. record { on = desk_on d.end; collected = collected d.end; ended = d.ended }) (λ a r b s. s) _ _ workers c.args.deliveries.now c.drive.new.events c.requires.fresh c.requires.going c.drive.new.desk c.args.hands.now
    c.drive.new.hands (g.K.Sink.held c.args.output.now) (record { held = g.K.Sink.held c.drive.new.writer; failed = g.K.Sink.failed c.drive.new.writer }) c.in-Err.fault (c.in-Err.ensures.err workers [] (stands_new workers _ new))
    (λ is. elim (c.in-Err.ensures.device (ap Err is)) [ inl failed ↦ inl failed | inr many ↦ inr (many workers [] (stands_new workers _ new)) ])
    (λ is. let bad = c.in-Err.ensures.only_failed (ap Err is) in let good = new in cc))
