use Rattle.std.proofs.Common.{◌-◌, ◌≤◌, length, map}
use Rattle.gq_tree.specs.Views.{name_of}
use Rattle.gq_parse.specs.Grammar.{IsName}
use Rattle.gq_parse.specs.Helping.From.{from}
use Rattle.gq_parse.proofs.Fronts.{Front}
use Rattle.gq_parse.proofs.MadeNames.{Followed}
use Rattle.gq_parse.proofs.names.separated_names.Given as goal

abbrev pub invariant-loop-names : goal.invariant-loop-names
invariant-loop-names l = record {
  after : l.start ≤ l.at;
  within : l.at ≤ length l.tokens;
  front : Front (Followed IsName l.between) (map name_of l.names.items) (from l.tokens l.start) (from l.tokens l.at);
}

abbrev pub decreases-loop-names : goal.decreases-loop-names
decreases-loop-names l = length l.tokens - l.at
