use Rattle.std.proofs.Common.{◌+◌, ◌*◌, map, length}
use Rattle.gq_table.specs.Json.{argument_items}
use Rattle.gq_table.specs.Views.{entry_view, value_view as argument_view}
use Rattle.gq_table_text.specs.Helping.ReadAs.{AreReadBefore, ArePutBefore}
use Rattle.gq_table_text.proofs.arguments.+argument.Given as goal

abbrev pub decreases-argument : goal.decreases-argument
decreases-argument l = 4 * l.depth

abbrev pub decreases-list : goal.decreases-list
decreases-list l = 4 * l.depth + 1

abbrev pub decreases-tagged_argument : goal.decreases-tagged_argument
decreases-tagged_argument l = 4 * l.depth + 3

abbrev pub decreases-argument_under : goal.decreases-argument_under
decreases-argument_under l = 4 * l.depth + 2

abbrev pub decreases-object : goal.decreases-object
decreases-object l = 4 * l.depth + 1

abbrev pub decreases-arguments : goal.decreases-arguments
decreases-arguments l = 4 * l.depth

abbrev pub decreases-entries_to_end : goal.decreases-entries_to_end
decreases-entries_to_end l = 4 * l.depth + 2

abbrev pub decreases-named_argument : goal.decreases-named_argument
decreases-named_argument l = 4 * l.depth + 1

-- where the tokens that are left can be read, all can
abbrev pub invariant-list-loop-alloc : goal.invariant-list-loop-alloc
invariant-list-loop-alloc l = AreReadBefore argument_items l.depth l.initial.reader l.reader (map argument_view l.items.items)

abbrev pub decreases-list-loop-alloc : goal.decreases-list-loop-alloc
decreases-list-loop-alloc l = length l.reader

abbrev pub invariant-entries_to_end-loop-key : goal.invariant-entries_to_end-loop-key
invariant-entries_to_end-loop-key l = ArePutBefore l.depth l.initial.reader l.reader (map entry_view l.entries.items)

abbrev pub decreases-entries_to_end-loop-key : goal.decreases-entries_to_end-loop-key
decreases-entries_to_end-loop-key l = length l.reader
