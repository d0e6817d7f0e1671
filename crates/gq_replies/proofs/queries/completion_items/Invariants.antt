use Rattle.std.proofs.Common.{◌≡◌, map, take}
use Rattle.gq_replies.specs.Answers.{item_of}
use Rattle.gq_replies.proofs.queries.completion_items.Given as goal

abbrev pub invariant-loop-completion : goal.invariant-loop-completion
invariant-loop-completion l = l.items ≡ map item_of (take l.completion-index l.found)
