use Rattle.std.proofs.Common.{rules, ◌<◌, ◌≤◌, ℕ, Contains, length, subst}
use Rattle.std.proofs.lemmas.List.{take_all}
use Rattle.gq_names.proofs.RepeatLemmas.{contains_none}
use Rattle.gq_graph.specs.Reach.{row}
use Rattle.gq_merging.proofs.UnionLemmas.{each_more}
use Rattle.gq_merging.proofs.unions.are_in_class.Goals as goal

pub loop-set-init : goal.loop-set-init
loop-set-init c = λ n d. absurd (contains_none n d)

pub loop-set-preserved : goal.loop-set-preserved
loop-set-preserved c =
    let inside : c.loop-set.set-index < length c.args.group.now = search rules in
    each_more (λ n. Contains (row c.args.numbers.now n) c.args.class) c.args.group.now c.loop-set.set-index inside c.loop-set.invariant (c.is_in_class.ensures c.if-not-is_in_class.false)

pub returns : goal.returns
returns c = λ t.
    let past : length c.args.group.now ≤ c.loop-set.set-index = search rules in
    subst (λ ns. (n : ℕ) → Contains ns n → Contains (row c.args.numbers.now n) c.args.class) (take_all c.loop-set.set-index c.args.group.now past) c.loop-set.invariant
