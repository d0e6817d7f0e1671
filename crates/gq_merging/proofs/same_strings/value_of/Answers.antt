use Rattle.std.proofs.Common.{rules, ◌≡◌, is_some, false}
use Rattle.gq_merging.proofs.StringLemmas.{nothing_stands}
use Rattle.gq_merging.proofs.same_strings.value_of.Goals as goal

pub returns-clause-none : goal.returns-clause-none
returns-clause-none c =
    let none_found : is_some c.in_ok-plain.plain ≡ false = search rules in
    nothing_stands c.args.spelling.now c.in_ok-plain.plain c.in_ok-block.block none_found c.in_ok-plain.ensures.none c.in_ok-block.ensures.none
