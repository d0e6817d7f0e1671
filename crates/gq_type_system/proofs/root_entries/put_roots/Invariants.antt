use Rattle.std.proofs.Common.{◌≡◌, ◌++◌, drop, map}
use Rattle.gq_tree.specs.Views.{root_view}
use Rattle.gq_type_system.specs.Helping.Groups.{roots_in_view}
use Rattle.gq_types.specs.Joined.{put_in}
use Rattle.gq_type_system.proofs.root_entries.put_roots.Given as goal

abbrev pub invariant-loop-root : goal.invariant-loop-root
invariant-loop-root l = roots_in_view l.roots.items ++ put_in l.file (map root_view (drop l.root-index l.more)) ≡ roots_in_view l.initial.roots.items ++ put_in l.file (map root_view l.more)
