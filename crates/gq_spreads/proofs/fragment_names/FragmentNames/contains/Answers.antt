use Rattle.std.proofs.Common.{◌∙◌, ap, length, nat_eq, ℕ, List}
use Rattle.std.specs.Prelude.{not}
use Rattle.gq_spreads.proofs.PlaceLemmas.{some_place}
use Rattle.gq_spreads.proofs.fragment_names.FragmentNames.contains.Goals as goal

pub returns : goal.returns
returns c = ap not (c.is_empty.ensures ∙ ap (λ (ns : List ℕ). nat_eq (length ns) 0) c.numbers.ensures) ∙ some_place 0 c.args.name.now c.args.self.now.names.items
