use Rattle.std.proofs.Common.{◌+◌, ◌<◌, ◌∙◌, List, ℕ, length, ap, arith}
use Rattle.std.specs.Prelude.{slice_get}
use Rattle.std.proofs.lemmas.List.Elements.{All-weaker}
use Rattle.gq_spreads.specs.Spreads.{places_from}
use Rattle.gq_spreads.proofs.NameRowLemmas.{first_below}
use Rattle.gq_spreads.proofs.PlaceLemmas.{places_below}
use Rattle.gq_spreads.proofs.fragment_names.FragmentNames.first_number.Goals as goal

pub returns-clause-within : goal.returns-clause-within
returns-clause-within c =
    let names = c.args.self.now.names.items in
    let places = places_from 0 c.args.name.now names in
    first_below places (length names) c.copied.result (c.copied.ensures ∙ c.first.ensures.value ∙ ap (λ (ns : List ℕ). slice_get ns 0) c.numbers.ensures)
    (All-weaker (λ n. n < 0 + length names) (λ n. n < length names) (λ n below. omega (arith, below)) places (places_below 0 c.args.name.now names))
