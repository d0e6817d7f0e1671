-- What is known of the other files stays, where the type system does; where memory is refused, that of the files before.
use Rattle.std.proofs.Common.{◌≡◌, ◌<◌, ◌≤◌, true, false, length, is_ok, arith, rules}
use Rattle.std.proofs.lemmas.Bool.Decides.{nat_tests}
use Rattle.gq_by_file.specs.Own.{none}
use Rattle.gq_by_file.proofs.KnownOwnLemmas.{own_other, own_insert, own_insert_beyond, own_insert_cut}
use Rattle.gq_by_file.proofs.own.make_room.Goals as goal

pub returns-then-changes_types : goal.returns-then-changes_types
returns-then-changes_types c es us rs r one are = rw c.clear.ensures.items none

pub returns-then-at-len : goal.returns-then-at-len
returns-then-at-len c es us rs r one are =
    let beyond : length c.args.own.now.items ≤ c.args.at = (let t = c.if-at-len.true in let l = c.len.ensures in grind (arith, nat_tests)) in
    own_insert_beyond us r c.args.at beyond (own_other es us (one c.if-changes_types.false) are)

pub returns-then-is_err : goal.returns-then-is_err
returns-then-is_err c es us rs r one are =
    let bad : is_ok c.insert.result ≡ false = search rules in
    rw (c.truncate.ensures.items, (rw bad at c.insert.ensures.items)) (own_insert_cut us r c.args.at (own_other es us (one c.if-changes_types.false) are))

pub returns-else-is_err : goal.returns-else-is_err
returns-else-is_err c es us rs r one are =
    let good : is_ok c.insert.result ≡ true = search rules in
    let inside : c.args.at < length c.args.own.now.items = (let t = c.if-at-len.false in let l = c.len.ensures in grind (arith, nat_tests)) in
    rw (rw good at c.insert.ensures.items) (own_insert us r c.args.at inside (own_other es us (one c.if-changes_types.false) are))
