use Rattle.std.proofs.lemmas.Result.{IfOk-weaker}
use Rattle.std.proofs.Common.{◌∙◌, ap, map}
use Rattle.gq_replies.specs.Answers.{item_of}
use Rattle.gq_replies.proofs.Asking.{tells_completions}
use Rattle.gq_replies.proofs.queries.find_completions.Goals as goal

pub returns : goal.returns
returns c =
    IfOk-weaker c.completion_items.result _ _
    (λ items is known id.
    tells_completions c.args.encoding c.args.known.project.now c.as_str-key.result.now c.offset_at-offset.result c.args.params.now c.as_str-key.ensures c.offset_at-offset.ensures
    id c.in_ok-found.found.items items (c.in_ok-found.ensures known) (is ∙ ap (map item_of) c.deref.ensures.value))
    c.completion_items.ensures
