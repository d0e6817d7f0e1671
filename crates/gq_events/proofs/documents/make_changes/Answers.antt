use Rattle.std.proofs.Common.{sym, ◌∙◌}
use Rattle.gq_events.proofs.Editing.{all_made}
use Rattle.gq_events.proofs.documents.make_changes.Goals as goal

pub returns-in-Some-Some-clause-text : goal.returns-in-Some-Some-clause-text
returns-in-Some-Some-clause-text c = λ done.
    all_made c.args.encoding c.args.document.now c.args.params.now c.in-Some-Some.field-0-0 c.in-Some-Some.changes c.as_slice.result.now c.apply_changes.new.self c.apply_changes.result (sym c.is_ok.ensures.value ∙ done)
    c.in-Some-Some.is-0 c.in-Some-Some.is-1 c.as_slice.ensures c.if-not-document.true c.apply_changes.ensures.fits c.apply_changes.ensures.ok
