use Rattle.std.proofs.Common.{◌≡◌, ◌++◌, drop, map}
use Rattle.gq_tree.specs.Names.{names_at}
use Rattle.gq_tree.specs.Views.{variable_view}
use Rattle.gq_index.proofs.variables.defined_variables.Given as goal

abbrev pub invariant-loop-variable : goal.invariant-loop-variable
invariant-loop-variable l =
    names_at l.names.items ++ map (λ v. v.name) (map variable_view (drop l.variable-index l.variable-items)) ≡ map (λ v. v.name) (map variable_view l.variable-items)
