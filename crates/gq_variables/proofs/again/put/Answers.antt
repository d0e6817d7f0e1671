use Rattle.std.proofs.Common.{subst}
use Rattle.gq_tree.specs.Views.{variable_view}
use Rattle.gq_types.specs.Look.{types_view}
use Rattle.gq_variables.specs.Helping.Again.{AddsNothing}
use Rattle.gq_variables.specs.Helping.Views.{variables_view}
use Rattle.gq_variables.proofs.AgainLemmas.{behind_nothing}
use Rattle.gq_variables.proofs.again.put.Goals as goal

pub returns-else-not-adds_nothing : goal.returns-else-not-adds_nothing
returns-else-not-adds_nothing c = λ u.
    let es = types_view c.args.types.now in
    let v = variable_view c.args.variable.now in
    behind_nothing es u c.args.again.now v c.as_str-name.result.now c.as_str-name.ensures
    (subst (λ vs. AddsNothing es (variables_view vs) v) c.get.ensures (c.adds_nothing.ensures c.if-not-adds_nothing.false))
