use Rattle.std.proofs.Common.{ℕ, suc, map, length}
use Rattle.gq_table.specs.Json.{result_items}
use Rattle.gq_table.specs.Views.{answer_view}
use Rattle.gq_table_text.specs.Helping.ReadAs.{AreReadBefore}
use Rattle.gq_table_text.proofs.outcomes.outcomes.Given as goal

-- where the tokens that are left can be read, all can
abbrev pub invariant-loop-alloc : goal.invariant-loop-alloc
invariant-loop-alloc l = (depth : ℕ) → AreReadBefore result_items (suc (suc depth)) l.fn.reader l.reader (map answer_view l.outcomes.items)

abbrev pub decreases-loop-alloc : goal.decreases-loop-alloc
decreases-loop-alloc l = length l.reader
