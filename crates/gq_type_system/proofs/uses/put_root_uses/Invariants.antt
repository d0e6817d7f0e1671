use Rattle.std.proofs.Common.{◌≡◌, ◌++◌, drop, map}
use Rattle.gq_tree.specs.Views.{root_view}
use Rattle.gq_type_system.specs.Helping.UsesViews.{uses_view}
use Rattle.gq_type_system.specs.Uses.{root_use}
use Rattle.gq_type_system.proofs.uses.put_root_uses.Given as goal

abbrev pub invariant-loop-root : goal.invariant-loop-root
invariant-loop-root l = uses_view l.uses.items ++ map root_use (map root_view (drop l.root-index l.roots)) ≡ uses_view l.initial.uses.items ++ map root_use (map root_view l.roots)
