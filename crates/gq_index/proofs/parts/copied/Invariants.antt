use Rattle.std.proofs.Common.{◌≡◌, ◌++◌, drop}
use Rattle.gq_tree.specs.Names.{names_at}
use Rattle.gq_index.specs.Views.{names_view}
use Rattle.gq_index.proofs.parts.copied.Given as goal

abbrev pub invariant-loop-name : goal.invariant-loop-name
invariant-loop-name l = names_view l.copies.items ++ names_at (drop l.name-index l.names) ≡ names_at l.names
