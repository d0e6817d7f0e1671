-- What changes nothing is taken in as it is.
use Rattle.std.proofs.Common.{refl}
use Rattle.gq_events.specs.declared.effect.Effect.TheVariants as effect
use Rattle.gq_events.proofs.Answering.{quiet}
use Rattle.gq_events.proofs.session.ClientSession.take_in.Goals as goal

pub returns-in-Nothing-clause-own : goal.returns-in-Nothing-clause-own
returns-in-Nothing-clause-own c = quiet c.args.workers c.args.self.now c.args.denied c.args.effect effect.Nothing c.args.outs.now.items c.in-Nothing.is refl refl

pub returns-in-Cancels-clause-own : goal.returns-in-Cancels-clause-own
returns-in-Cancels-clause-own c = quiet c.args.workers c.args.self.now c.args.denied c.args.effect (effect.Cancels c.in-Cancels.field-0) c.args.outs.now.items c.in-Cancels.is refl refl

pub returns-in-Finishes-clause-own : goal.returns-in-Finishes-clause-own
returns-in-Finishes-clause-own c = quiet c.args.workers c.args.self.now c.args.denied c.args.effect (effect.Finishes c.in-Finishes.field-0) c.args.outs.now.items c.in-Finishes.is refl refl
