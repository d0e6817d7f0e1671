use Rattle.std.proofs.Common.{◌≡◌, map, take}
use Rattle.gq_replies.specs.Notifications.{diagnostic_in}
use Rattle.gq_replies.proofs.notifications.text_diagnostics.Given as goal

abbrev pub invariant-loop-one : goal.invariant-loop-one
invariant-loop-one l = l.diagnostics ≡ map (diagnostic_in l.encoding l.text) (take l.one-index l.found)
