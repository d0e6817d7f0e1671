use Rattle.std.proofs.Common.{take}
use Rattle.gq_merging.specs.Helping.HubTables.{AreLed}
use Rattle.gq_merging.specs.Helping.Views.{all_spreads_at, sets_at}
use Rattle.gq_merging.proofs.rows.all_led.Given as goal

abbrev pub invariant-loop-spread : goal.invariant-loop-spread
invariant-loop-spread l =
    AreLed l.from.names.now.names.items l.from.number (all_spreads_at (take l.spread-index l.spreads)) (sets_at l.initial.sets.items) (sets_at l.sets.items)
    l.initial.hubs.items l.hubs.items l.numbers.items
