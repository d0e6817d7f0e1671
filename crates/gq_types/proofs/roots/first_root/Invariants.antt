use Rattle.std.proofs.Common.{◌≡◌, drop, map}
use Rattle.std.specs.List.{find}
use Rattle.gq_tree.specs.Same.{same_kinds}
use Rattle.gq_tree.specs.Views.{root_view}
use Rattle.gq_types.proofs.roots.first_root.Given as goal

abbrev pub invariant-loop-root : goal.invariant-loop-root
invariant-loop-root l = find (λ r. same_kinds l.kind r.kind) (map root_view (drop l.root-index l.roots)) ≡ find (λ r. same_kinds l.kind r.kind) (map root_view l.roots)
