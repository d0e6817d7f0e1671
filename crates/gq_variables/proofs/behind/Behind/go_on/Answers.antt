use Rattle.gq_variables.specs.Helping.Views.{uses_view, rows_view}
use Rattle.gq_variables.proofs.UseLemmas.{behind_as}
use Rattle.gq_variables.proofs.behind.Behind.go_on.Goals as goal

pub returns-then-goes_on : goal.returns-then-goes_on
returns-then-goes_on c =
    let same = c.goes_on.ensures c.if-goes_on.true in
    behind_as (rows_view c.args.rows.now) c.args.spreads.now same.0 c.args.number (uses_view c.args.self.now.uses.items) same.2 (c.requires.before same.0 same.1)
