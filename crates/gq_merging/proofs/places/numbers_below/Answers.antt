use Rattle.std.proofs.Common.{rules, ◌<◌, ◌≤◌, arith}
use Rattle.gq_merging.proofs.PlaceLemmas.{number_more, still_below}
use Rattle.gq_merging.proofs.places.numbers_below.Goals as goal

pub loop-number-preserved : goal.loop-number-preserved
loop-number-preserved c =
    let below : c.loop-number.number < c.args.count = search rules in
    record {
      within = still_below c.loop-number.numbers.items c.push.new.self.items c.loop-number.number c.args.count below c.in_ok-push.ensures.items c.loop-number.invariant.within;
      each = number_more c.loop-number.numbers.items c.push.new.self.items c.loop-number.number c.in_ok-push.ensures.items c.loop-number.invariant.each;
    }

pub returns-clause-each : goal.returns-clause-each
returns-clause-each c = λ j l.
    let past : c.args.count ≤ c.loop-number.number = search rules in
    c.loop-number.invariant.each j (omega (arith, l, past))
