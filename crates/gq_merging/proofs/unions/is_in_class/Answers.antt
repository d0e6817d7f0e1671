use Rattle.std.proofs.Common.{rules, ◌≡◌, ◌<◌, length, arith}
use Rattle.std.proofs.lemmas.Bool.Decides.{nat_tests}
use Rattle.gq_merging.proofs.UnionLemmas.{has_number}
use Rattle.gq_merging.proofs.unions.is_in_class.Goals as goal

pub returns : goal.returns
returns c = λ t.
    let inside : c.args.set < length c.args.numbers.now = search rules in
    let one : length c.index-numbers-set.result.items ≡ 1 = grind (arith, nat_tests) in
    let is : c.index-first.result.now ≡ c.args.class = grind (arith, nat_tests) in
    has_number c.args.numbers.now c.args.set c.index-numbers-set.result c.index-first.result.now c.args.class inside c.index-numbers-set.is one c.index-first.ensures is
