use Rattle.std.proofs.Common.{◌-◌, ◌≤◌, length, map}
use Rattle.gq_tree.specs.Views.{def_view}
use Rattle.gq_parse.specs.Documents.{IsDefinition}
use Rattle.gq_parse.specs.Helping.From.{from}
use Rattle.gq_parse.proofs.Fronts.{Front}
use Rattle.gq_parse.proofs.definitions.document.Given as goal

abbrev pub invariant-loop-at : goal.invariant-loop-at
invariant-loop-at l = record {
  within : l.at ≤ length l.tokens;
  read : Front IsDefinition (map def_view l.definitions.items) (from l.tokens 0) (from l.tokens l.at);
}

abbrev pub decreases-loop-at : goal.decreases-loop-at
decreases-loop-at l = length l.tokens - l.at
