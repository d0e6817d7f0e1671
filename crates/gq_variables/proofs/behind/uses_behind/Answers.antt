use Rattle.std.proofs.Common.{◌++◌, ap, ◌∙◌, flat_map, List, ℕ}
use Rattle.gq_variables.specs.Helping.UsesPlaces.{row_at}
use Rattle.gq_variables.specs.Helping.Views.{uses_view, rows_view}
use Rattle.gq_variables.proofs.UseLemmas.{behind_found}
use Rattle.gq_variables.proofs.behind.uses_behind.Goals as goal

pub returns : goal.returns
returns c =
    behind_found (rows_view c.args.rows.now) c.args.of_fragments.now c.args.starts.now c.in_ok-numbers.numbers.items (uses_view c.put_rows.new.uses.items)
    c.in_ok-numbers.ensures.sound c.in_ok-numbers.ensures.complete
    (c.in_ok-put_rows.ensures ∙ ap (λ us. uses_view us ++ flat_map (row_at (rows_view c.args.rows.now)) c.deref.result.now) c.new-uses.ensures.items
    ∙ ap (λ (ns : List ℕ). flat_map (row_at (rows_view c.args.rows.now)) ns) c.deref.ensures.value)
