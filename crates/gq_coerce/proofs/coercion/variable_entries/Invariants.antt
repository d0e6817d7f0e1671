use Rattle.std.proofs.Common.{◌≤◌, length}
use Rattle.gq_coerce.specs.Helping.Views.{setting_view}
use Rattle.gq_coerce.specs.Helping.Order.{in_order}
use Rattle.gq_coerce.proofs.Loops.{AreFrom}
use Rattle.gq_coerce.proofs.RawReadings.{variable_of}
use Rattle.gq_coerce.proofs.coercion.variable_entries.Given as goal

abbrev pub decreases-variables : goal.decreases-variables
decreases-variables l = l.left

abbrev pub invariant-variables : goal.invariant-variables
invariant-variables l = AreFrom (variable_of (setting_view l.setting) l.raw) l.definitions (in_order l.entries.items) l.left × (l.left ≤ length l.definitions)
