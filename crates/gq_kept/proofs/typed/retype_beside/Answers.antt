use mathlib.Core.Logic.{∥∥₁_map}
use Rattle.gq_types.specs.Entries.{entries_view}
use Rattle.gq_types.specs.Look.{types_view}
use Rattle.gq_kept.proofs.typed.retype_beside.Goals as goal

pub exchange-requires-clause-at : goal.exchange-requires-clause-at
exchange-requires-clause-at c = ∥∥₁_map c.requires (λ d. c.in-Some.ensures (types_view c.args.typed.now.types) (entries_view c.args.entries.items) d)
