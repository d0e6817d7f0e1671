-- What is known of the other files stays, where the type system does.
use Rattle.std.proofs.Common.{◌≤◌, length, arith}
use Rattle.std.proofs.lemmas.Bool.Decides.{nat_tests}
use Rattle.gq_by_file.specs.Own.{none}
use Rattle.gq_by_file.proofs.KnownOwnLemmas.{own_other, own_set, own_set_beyond}
use Rattle.gq_by_file.proofs.own.forget_at.Goals as goal

pub returns-then-changes_types : goal.returns-then-changes_types
returns-then-changes_types c es us rs r one are = rw c.clear.ensures.items none

pub returns-then-at-len : goal.returns-then-at-len
returns-then-at-len c es us rs r one are = own_set us r c.args.at (own_other es us (one c.if-changes_types.false) are)

pub returns-else-at-len : goal.returns-else-at-len
returns-else-at-len c es us rs r one are =
    let beyond : length c.args.own.now.items ≤ c.args.at = (let t = c.if-at-len.false in let l = c.len.ensures in grind (arith, nat_tests)) in
    own_set_beyond us r c.args.at beyond (own_other es us (one c.if-changes_types.false) are)
