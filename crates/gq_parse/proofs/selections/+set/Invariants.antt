use Rattle.std.proofs.Common.{◌+◌, ◌-◌, ◌*◌, ◌≤◌, length, map}
use Rattle.gq_tree.specs.Views.{sel_view}
use Rattle.gq_parse.specs.Helping.From.{from}
use Rattle.gq_parse.specs.Helping.Phrases.{IsSel}
use Rattle.gq_parse.proofs.Fronts.{Front}
use Rattle.gq_parse.proofs.selections.+set.Given as goal

abbrev pub decreases-selections : goal.decreases-selections
decreases-selections l = 4 * (length l.tokens.now - l.start) + 2

abbrev pub decreases-selection : goal.decreases-selection
decreases-selection l = 4 * (length l.tokens.now - l.at) + 1

abbrev pub decreases-field : goal.decreases-field
decreases-field l = 4 * (length l.tokens.now - l.at)

abbrev pub decreases-inline_fragment : goal.decreases-inline_fragment
decreases-inline_fragment l = 4 * (length l.tokens.now - l.at)

abbrev pub decreases-optional_set : goal.decreases-optional_set
decreases-optional_set l = 4 * (length l.tokens.now - l.at) + 1

abbrev pub decreases-selection_set : goal.decreases-selection_set
decreases-selection_set l = 4 * (length l.tokens.now - l.at)

abbrev pub invariant-selections-loop-end : goal.invariant-selections-loop-end
invariant-selections-loop-end l = record {
  after : l.start ≤ l.at;
  within : l.at ≤ length l.tokens;
  front : Front IsSel (map sel_view l.items.items) (from l.tokens l.start) (from l.tokens l.at);
}

abbrev pub decreases-selections-loop-end : goal.decreases-selections-loop-end
decreases-selections-loop-end l = length l.tokens - l.at
