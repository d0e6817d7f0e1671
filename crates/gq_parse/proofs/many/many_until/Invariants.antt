use Rattle.std.proofs.Common.{◌-◌, ◌≤◌, length, map}
use Rattle.gq_parse.specs.Helping.From.{from}
use Rattle.gq_parse.proofs.Fronts.{Front}
use Rattle.gq_parse.proofs.many.many_until.Given as goal

abbrev pub invariant-loop-end : goal.invariant-loop-end
invariant-loop-end g l = record {
  after : l.start ≤ l.at;
  within : l.at ≤ length l.tokens;
  front : Front (g.P.Phrase.stands l.phrase) (map g.P.Phrase.view l.items.items) (from l.tokens l.start) (from l.tokens l.at);
}

abbrev pub decreases-loop-end : goal.decreases-loop-end
decreases-loop-end g l = length l.tokens - l.at
