use Rattle.std.proofs.Common.{◌≡◌, ◌++◌, drop, map}
use Rattle.gq_tree.specs.Names.{names_at}
use Rattle.gq_spreads.proofs.fragments_must_be_used.put_names.Given as goal

abbrev pub invariant-loop-name : goal.invariant-loop-name
invariant-loop-name l = l.spread ++ map (λ n. n.text) (names_at (drop l.name-index l.names)) ≡ l.initial.spread ++ map (λ n. n.text) (names_at l.names)
