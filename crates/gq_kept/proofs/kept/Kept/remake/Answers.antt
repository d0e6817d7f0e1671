-- All is known of what was made of the documents at once.
use Rattle.std.proofs.Common.{◌∙◌}
use Rattle.gq_kept.proofs.RemadeLemmas.{kept_remade}
use Rattle.gq_kept.proofs.kept.Kept.remake.Goals as goal

pub invariant_of-drop : goal.invariant_of-drop
invariant_of-drop c =
    kept_remade c.args.project.now c.unjudged.result.documents c.documents.result.now c.in_ok-readings.readings.items c.deref.result.now c.in_ok-typed.typed c.new.result
    (c.unjudged.ensures.documents ∙ c.in_ok-copy.ensures) c.documents.ensures.all c.deref.ensures.value c.in_ok-readings.ensures c.in_ok-typed.ensures c.new.ensures
