use Rattle.std.proofs.Common.{◌-◌, ◌≤◌, length}
use Rattle.gq_lex.specs.declared.token.Kind.TheVariants as kind
use Rattle.gq_parse.specs.TypeSystem.{IsLocation}
use Rattle.gq_parse.specs.Helping.From.{from}
use Rattle.gq_parse.proofs.Fronts.{Front}
use Rattle.gq_parse.proofs.MadeNames.{Followed}
use Rattle.gq_parse.proofs.directive_definitions.separated_locations.Given as goal

abbrev pub invariant-loop-one : goal.invariant-loop-one
invariant-loop-one l = record {
  after : l.start ≤ l.at;
  within : l.at ≤ length l.tokens;
  front : Front (Followed IsLocation kind.Pipe) l.locations.items (from l.tokens l.start) (from l.tokens l.at);
}

abbrev pub decreases-loop-one : goal.decreases-loop-one
decreases-loop-one l = length l.tokens - l.at
