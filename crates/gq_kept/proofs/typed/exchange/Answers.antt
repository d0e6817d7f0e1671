use Rattle.std.proofs.Common.{◌≡◌, ap, ◌∙◌}
use mathlib.Core.Logic.{∥∥₁_map}
use Rattle.gq_types.specs.Entries.{entries_view}
use Rattle.gq_types.specs.Look.{types_view}
use Rattle.gq_types.proofs.Placing.Exchanged.{differs_back}
use Rattle.gq_kept.proofs.BesideLemmas.{told_of}
use Rattle.gq_kept.proofs.typed.exchange.Goals as goal

pub exchange-requires : goal.exchange-requires
exchange-requires c =
    let now : c.exchange-was.new.self ≡ c.args.entries.items = c.exchange-was.ensures.now ∙ c.in_ok-replacement.ensures.entries in
    let back = ∥∥₁_map c.requires.at (λ d. differs_back c.args.number (types_view c.args.typed.now.types) (entries_view c.args.entries.items) d) in
    rw (c.exchange-was.ensures.number, c.in_ok-replacement.ensures.number, now, c.exchange-was.ensures.was) back

pub returns-in-Ok-clause-types : goal.returns-in-Ok-clause-types
returns-in-Ok-clause-types c = ap entries_view (c.exchange-was.ensures.now ∙ c.in_ok-replacement.ensures.entries)

pub returns-in-Ok-clause-tells : goal.returns-in-Ok-clause-tells
returns-in-Ok-clause-tells c =
    let now : entries_view c.exchange-was.new.self ≡ entries_view c.args.entries.items = ap entries_view (c.exchange-was.ensures.now ∙ c.in_ok-replacement.ensures.entries) in
    told_of (types_view c.args.typed.now.types) (entries_view c.args.entries.items) (entries_view c.exchange-was.new.self) c.args.beside.now c.args.typed.now.has_schema c.in-Ok.has_schema now c.requires.beside c.in-Ok.ensures
