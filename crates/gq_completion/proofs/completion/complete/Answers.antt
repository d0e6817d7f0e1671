use Rattle.std.proofs.Common.{subst}
use Rattle.gq_completion.specs.Completions.{AreCompletions}
use Rattle.gq_completion.proofs.completion.complete.Goals as goal

pub returns : goal.returns
returns c =
    subst (λ ds. AreCompletions ds c.args.key.now c.args.offset c.in_ok-all.all.items) c.known.ensures.project
    (c.in_ok-all.ensures (c.known.ensures.known c.in_ok-learned.ensures))
