use Rattle.std.proofs.Common.{ap, sym, ◌∙◌}
use Rattle.gq_events.specs.Rules.{effect_of}
use Rattle.gq_events.proofs.Going.{going}
use Rattle.gq_events.proofs.event.Event.effect.Goals as goal

pub returns-in-Message : goal.returns-in-Message
returns-in-Message c =
    c.message_effect.ensures ∙ sym (ap (effect_of c.args.phase c.args.documents.now) c.in-Message.is ∙ going c.args.phase c.args.documents.now _ c.in_default.not-Stopped)
