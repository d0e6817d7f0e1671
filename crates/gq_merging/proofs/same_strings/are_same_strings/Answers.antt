use Rattle.std.proofs.Common.{rules, ◌≡◌, ◌↔◌, IsTrue}
use Rattle.gq_merging.specs.SameArguments.{StandsFor}
use Rattle.gq_merging.proofs.StringLemmas.{strings_valued, apart_left, apart_right}
use Rattle.gq_merging.proofs.same_strings.are_same_strings.Goals as goal

pub returns-in_default : goal.returns-in_default
returns-in_default c =
    let spelled : c.args.left.now ≡ c.args.right.now → ⊥ = search rules in
    apart_left c.args.left.now c.args.right.now c.in_ok-left_value.field-0 spelled c.in_default.is c.in_ok-left_value.ensures.none

pub returns-in_default-2 : goal.returns-in_default-2
returns-in_default-2 c =
    let spelled : c.args.left.now ≡ c.args.right.now → ⊥ = search rules in
    apart_right c.args.left.now c.args.right.now c.in_ok-right_value.field-0 spelled c.in_default-2.is c.in_ok-right_value.ensures.none

pub returns : goal.returns
returns c =
    let left : StandsFor c.args.left.now c.in-Some.left_value = search rules in
    let right : StandsFor c.args.right.now c.in-Some-2.right_value = search rules in
    let are : IsTrue c.eq-2.result ↔ (c.in-Some.left_value ≡ c.in-Some-2.right_value) = search rules in
    strings_valued c.args.left.now c.args.right.now c.in-Some.left_value c.in-Some-2.right_value c.eq-2.result left right are
