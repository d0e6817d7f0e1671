use Rattle.std.proofs.Common.{◌≡◌, ◌∙◌, map}
use Rattle.gq_index.specs.Helping.PlacedParts.{placed_view}
use Rattle.gq_index.specs.Helping.SpreadNumbers.{fragment_numbers, spread_rows}
use Rattle.gq_index.specs.Helping.StandingParts.{numbers_under_names}
use Rattle.gq_index.proofs.SpreadLemmas.{rows_same, rows_in_range}
use Rattle.gq_index.proofs.spreads.spread_rows.Goals as goal

pub returns-clause-rows : goal.returns-clause-rows
returns-clause-rows c =
    let ps = placed_view c.args.parts.now in
    c.in_ok-rows.ensures ∙ rows_same (numbers_under_names c.args.fragments.now) (fragment_numbers 0 ps) c.requires.stand ps

pub returns-clause-range : goal.returns-clause-range
returns-clause-range c =
    let ps = placed_view c.args.parts.now in
    let are : map (λ v. v.items) c.in_ok-rows.rows.items ≡ spread_rows ps = c.in_ok-rows.ensures ∙ rows_same (numbers_under_names c.args.fragments.now) (fragment_numbers 0 ps) c.requires.stand ps in
    rows_in_range ps c.in_ok-rows.rows.items are
