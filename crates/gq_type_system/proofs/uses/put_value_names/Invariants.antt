use Rattle.std.proofs.Common.{◌≡◌, ◌++◌, drop, map}
use Rattle.gq_tree.specs.Views.{enum_value_view}
use Rattle.gq_type_system.specs.Helping.UsesViews.{names_view}
use Rattle.gq_type_system.proofs.uses.put_value_names.Given as goal

abbrev pub invariant-loop-value : goal.invariant-loop-value
invariant-loop-value l = names_view l.names.items ++ map (λ v. v.name) (map enum_value_view (drop l.value-index l.values)) ≡ names_view l.initial.names.items ++ map (λ v. v.name) (map enum_value_view l.values)
