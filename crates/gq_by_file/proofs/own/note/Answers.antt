-- Nothing is known of one file more.
use Rattle.std.proofs.Common.{◌≡◌, length, arith}
use Rattle.std.proofs.lemmas.Bool.Decides.{nat_tests}
use Rattle.gq_by_file.proofs.KnownOwnLemmas.{own_push}
use Rattle.gq_by_file.proofs.own.note.Goals as goal

pub returns-clause-own : goal.returns-clause-own
returns-clause-own c es rs r there are =
    let count : length c.args.own.now.items ≡ c.args.file = (let q = c.requires in let t = c.if-file-len.false in let l = c.len.ensures in grind (arith, nat_tests)) in
    rw c.in_ok-push.ensures.items (own_push es c.args.file r count there are)
