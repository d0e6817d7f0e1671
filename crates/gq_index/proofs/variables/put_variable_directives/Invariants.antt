use Rattle.std.proofs.Common.{◌≡◌, ◌++◌, drop, map}
use Rattle.std.specs.List.{flat_map}
use Rattle.gq_tree.specs.Names.{names_at}
use Rattle.gq_tree.specs.Views.{variable_view}
use Rattle.gq_index.specs.VariableNames.{directive_variables}
use Rattle.gq_index.proofs.variables.put_variable_directives.Given as goal

abbrev pub invariant-loop-variable : goal.invariant-loop-variable
invariant-loop-variable l =
    names_at l.names.items ++ flat_map (λ v. directive_variables v.directives) (map variable_view (drop l.variable-index l.variables))
    ≡ names_at l.initial.names.items ++ flat_map (λ v. directive_variables v.directives) (map variable_view l.variables)
