use Rattle.std.proofs.Common.{◌-◌, ◌≤◌, length, map}
use Rattle.gq_tree.specs.Views.{directive_view}
use Rattle.gq_parse.specs.Helping.From.{from}
use Rattle.gq_parse.specs.Helping.Phrases.{IsDirective}
use Rattle.gq_parse.proofs.Fronts.{Front}
use Rattle.gq_parse.proofs.directives.directives.Given as goal

abbrev pub invariant-loop-alloc : goal.invariant-loop-alloc
invariant-loop-alloc l = record {
  after : l.start ≤ l.at;
  within : l.at ≤ length l.tokens;
  front : Front (IsDirective l.constant) (map directive_view l.directives.items) (from l.tokens l.start) (from l.tokens l.at);
}

abbrev pub decreases-loop-alloc : goal.decreases-loop-alloc
decreases-loop-alloc l = length l.tokens - l.at
