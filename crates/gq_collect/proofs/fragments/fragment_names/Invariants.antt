use Rattle.std.proofs.Common.{◌≡◌, ◌++◌, drop, map}
use Rattle.gq_collect.proofs.fragments.fragment_names.Given as goal

abbrev pub invariant-loop-fragment : goal.invariant-loop-fragment
invariant-loop-fragment l = l.names ++ map (λ f. f.definition.now.name.text) (drop l.fragment-index l.all) ≡ map (λ f. f.definition.now.name.text) l.all
