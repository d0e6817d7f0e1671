use Rattle.std.proofs.Common.{◌+◌, ap, ◌∙◌}
use Rattle.std.proofs.lemmas.List.{length_push}
use Rattle.gq_types.proofs.JoinedLemmas.{empty_pushed}
use Rattle.gq_types.proofs.joined.empty_lists.Goals as goal

pub loop-number-preserved : goal.loop-number-preserved
loop-number-preserved c =
    let lists = c.loop-number.lists.items in
    let pushed = c.in_ok-push.ensures.items in
    rw pushed (length_push lists c.new.result ∙ ap (λ n. n + 1) c.loop-number.invariant.0, empty_pushed lists c.new.result c.new.ensures.items c.loop-number.invariant.1)
