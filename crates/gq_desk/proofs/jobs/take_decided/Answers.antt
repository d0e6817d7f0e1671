use Rattle.std.proofs.Common.{sym, ◌∙◌}
use Rattle.gq_events.specs.declared.effect.Effect.TheVariants as effect
use Rattle.gq_events.specs.Documents.{docs_of}
use Rattle.gq_events.specs.Rules.{decides}
use Rattle.gq_desk.specs.Helping.Settling.{is_result_of}
use Rattle.gq_desk.proofs.Settled.{of_its_number}
use Rattle.gq_desk.proofs.Taking.{none_passes, all_stay, taken_in, left_in}
use Rattle.gq_desk.proofs.jobs.take_decided.Goals as goal

pub returns-in-Some-clause-taken : goal.returns-in-Some-clause-taken
unfolding is_result_of
returns-in-Some-clause-taken c =
    let docs = docs_of c.args.documents.now in
    let done = c.args.done.now in
    taken_in (decides docs (effect.Finishes done)) done.job (of_its_number docs done) c.args.pending.now.items c.deref.result.now c.in-Some.at c.remove.result c.deref.ensures.value c.requires c.in-Some.ensures.some c.remove.ensures.value

pub returns-in-Some-clause-left : goal.returns-in-Some-clause-left
unfolding is_result_of
returns-in-Some-clause-left c =
    let docs = docs_of c.args.documents.now in
    let done = c.args.done.now in
    c.remove.ensures.items
    ∙ sym (left_in (decides docs (effect.Finishes done)) done.job (of_its_number docs done) c.args.pending.now.items c.deref.result.now c.in-Some.at c.remove.result c.deref.ensures.value c.requires c.in-Some.ensures.some)

pub returns-in-None-clause-taken : goal.returns-in-None-clause-taken
unfolding is_result_of
returns-in-None-clause-taken c = none_passes (decides (docs_of c.args.documents.now) (effect.Finishes c.args.done.now)) c.args.pending.now.items (rw (← c.deref.ensures.value) c.in-None.ensures.none)

pub returns-in-None-clause-left : goal.returns-in-None-clause-left
unfolding is_result_of
returns-in-None-clause-left c = sym (all_stay (decides (docs_of c.args.documents.now) (effect.Finishes c.args.done.now)) c.args.pending.now.items (rw (← c.deref.ensures.value) c.in-None.ensures.none))
