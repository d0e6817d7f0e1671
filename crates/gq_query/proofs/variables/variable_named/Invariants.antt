use Rattle.std.proofs.Common.{◌≡◌, drop, map}
use Rattle.std.specs.Prelude.{find, bytes_eq}
use Rattle.gq_tree.specs.Views.{variable_view}
use Rattle.gq_query.proofs.variables.variable_named.Given as goal

abbrev pub invariant-loop-variable : goal.invariant-loop-variable
invariant-loop-variable l = find (λ v. bytes_eq l.name v.name.text) (map variable_view (drop l.variable-index l.variables)) ≡ find (λ v. bytes_eq l.name v.name.text) (map variable_view l.variables)
