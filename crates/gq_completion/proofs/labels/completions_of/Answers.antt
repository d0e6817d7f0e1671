use Rattle.std.proofs.lemmas.Result.{IfOk-weaker}
use Rattle.gq_completion.proofs.LabelLemmas.{labels_in_order, labels_exactly}
use Rattle.gq_completion.proofs.labels.completions_of.Goals as goal

pub returns-clause-sorted : goal.returns-clause-sorted
returns-clause-sorted c =
    IfOk-weaker c.labelled.result _ _ (λ all is. labels_in_order c.args.kind c.in_order-ordered.result.items all.items is c.in_order-ordered.ensures.sorted) c.labelled.ensures

pub returns-clause-exact : goal.returns-clause-exact
returns-clause-exact c =
    IfOk-weaker c.labelled.result _ _ (λ all is. labels_exactly c.args.kind c.in_order-ordered.result.items c.args.names.items all.items is c.in_order-ordered.ensures.same) c.labelled.ensures
