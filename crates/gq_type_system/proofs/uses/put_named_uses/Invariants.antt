use Rattle.std.proofs.Common.{◌≡◌, ◌++◌, drop, map}
use Rattle.gq_tree.specs.Views.{name_of}
use Rattle.gq_type_system.specs.Helping.UsesViews.{uses_view}
use Rattle.gq_type_system.specs.Uses.{named_uses}
use Rattle.gq_type_system.proofs.uses.put_named_uses.Given as goal

abbrev pub invariant-loop-name : goal.invariant-loop-name
invariant-loop-name l = uses_view l.uses.items ++ named_uses l.wants (map name_of (drop l.name-index l.names)) ≡ uses_view l.initial.uses.items ++ named_uses l.wants (map name_of l.names)
