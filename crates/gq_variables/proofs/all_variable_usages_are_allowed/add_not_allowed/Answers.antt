use Rattle.std.proofs.Common.{ap, ◌++◌, ◌∙◌, map, List}
use Rattle.std.proofs.lemmas.Result.{on_ok_weaker}
use Rattle.gq_fault.specs.declared.fault.Fault.{Fault}
use Rattle.gq_tree.specs.Views.{variable_view}
use Rattle.gq_types.specs.Look.{types_view}
use Rattle.gq_variables.specs.Helping.Views.{uses_view, variables_view}
use Rattle.gq_variables.proofs.AgainLemmas.{same_faults}
use Rattle.gq_variables.proofs.all_variable_usages_are_allowed.add_not_allowed.Goals as goal

pub returns : goal.returns
returns c =
    on_ok_weaker c.add_each_not_allowed.result
    (λ put. put ∙ ap (λ (faults : List Fault). c.args.faults.now.items ++ faults)
    (same_faults (types_view c.args.types.now) (map variable_view c.args.variables.now.all.now) (variables_view c.args.repeated.now) c.in_ok-again.again c.in_ok-again.ensures (uses_view c.args.uses.now)))
    c.add_each_not_allowed.ensures
