use Rattle.std.proofs.Common.{◌+◌, ◌-◌, ◌*◌, ◌≤◌, length, map}
use Rattle.gq_tree.specs.Views.{value_view, entry_view}
use Rattle.gq_parse.specs.Grammar.{IsArgument}
use Rattle.gq_parse.specs.Helping.From.{from}
use Rattle.gq_parse.specs.Helping.Phrases.{IsLoneValue}
use Rattle.gq_parse.proofs.Fronts.{Front}
use Rattle.gq_parse.proofs.values.+value.Given as goal

abbrev pub decreases-value : goal.decreases-value
decreases-value l = 5 * (length l.tokens.now - l.at) + 1

abbrev pub decreases-list : goal.decreases-list
decreases-list l = 5 * (length l.tokens.now - l.at)

abbrev pub decreases-object : goal.decreases-object
decreases-object l = 5 * (length l.tokens.now - l.at)

abbrev pub decreases-values : goal.decreases-values
decreases-values l = 5 * (length l.tokens.now - l.start) + 2

abbrev pub decreases-named_value : goal.decreases-named_value
decreases-named_value l = 5 * (length l.tokens.now - l.at) + 2

abbrev pub decreases-object_fields : goal.decreases-object_fields
decreases-object_fields l = 5 * (length l.tokens.now - l.start) + 3

abbrev pub invariant-values-loop-end : goal.invariant-values-loop-end
invariant-values-loop-end l = record {
  after : l.start ≤ l.at;
  within : l.at ≤ length l.tokens;
  front : Front (IsLoneValue l.constant) (map value_view l.items.items) (from l.tokens l.start) (from l.tokens l.at);
}

abbrev pub decreases-values-loop-end : goal.decreases-values-loop-end
decreases-values-loop-end l = length l.tokens - l.at

abbrev pub invariant-object_fields-loop-end : goal.invariant-object_fields-loop-end
invariant-object_fields-loop-end l = record {
  after : l.start ≤ l.at;
  within : l.at ≤ length l.tokens;
  front : Front (IsArgument l.constant) (map entry_view l.fields.items) (from l.tokens l.start) (from l.tokens l.at);
}

abbrev pub decreases-object_fields-loop-end : goal.decreases-object_fields-loop-end
decreases-object_fields-loop-end l = length l.tokens - l.at
