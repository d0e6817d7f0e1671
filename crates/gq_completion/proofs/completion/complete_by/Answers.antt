use Rattle.std.proofs.Common.{sym}
use Rattle.std.proofs.lemmas.Result.{IfOk-weaker}
use Rattle.gq_completion.proofs.CompletionLemmas.{at_place, no_place}
use Rattle.gq_completion.proofs.completion.complete_by.Goals as goal

pub returns-in-Some : goal.returns-in-Some
returns-in-Some c =
    IfOk-weaker c.completed_at.result _ _
    (λ all are known. at_place c.args.known.project.now c.args.key.now c.args.offset c.in-Some.number (sym c.in-Some.ensures) all.items (are known))
    c.completed_at.ensures

pub returns-in-None : goal.returns-in-None
returns-in-None c known = no_place c.args.known.project.now c.args.key.now c.args.offset (sym c.in-None.ensures) c.new.result.items c.new.ensures.items
