use Rattle.std.proofs.Common.{◌≡◌, ◌++◌, drop}
use Rattle.gq_replies.specs.Notifications.{messages_of}
use Rattle.gq_replies.proofs.notifications.notifications.Given as goal

-- the messages so far, and those of the rest
abbrev pub invariant-loop-index : goal.invariant-loop-index
invariant-loop-index l = l.messages.items ++ messages_of l.encoding (drop l.index l.documents) (drop l.index l.all) ≡ messages_of l.encoding l.documents l.all
