use Rattle.std.proofs.Common.{◌≡◌, ◌∷◌, ℕ, suc, true, rules, sym, subst, arith}
use Rattle.std.specs.Bool.{IsTrue}
use Rattle.std.specs.Option.{IfSome}
use Rattle.json.specs.Token.{begin_object, key, null}
use Rattle.gq_table.specs.Json.{result_of, result_under}
use Rattle.gq_table.specs.Views.{answer_view}
use Rattle.gq_table.proofs.Trees.{view_nothing}
use Rattle.gq_table_text.specs.Helping.ReadAs.{BeginsWith}
use Rattle.gq_table_text.proofs.OutcomeLemmas.{null_seen, word_seen}
use Rattle.gq_table_text.proofs.outcomes.outcome.Goals as goal

pub returns-in_default-first : goal.returns-in_default-first
returns-in_default-first c depth =
    let front : c.args.reader.now ≡ null ∷ c.enter_result.new.reader = grind arith in
    subst (BeginsWith result_of (suc (suc (suc (suc depth)))) c.args.reader.now c.enter_result.new.reader) (sym view_nothing) (null_seen c.args.reader.now
    c.enter_result.new.reader front (suc (suc (suc (suc depth)))))

pub returns-in-Some-2 : goal.returns-in-Some-2
returns-in-Some-2 c depth =
    let yes : IsTrue true = search rules in
    let word = c.in-Some-first.word.now in
    let mid = c.enter_result.new.reader in
    let after = c.any_outcome_under.new.reader in
    let front : c.args.reader.now ≡ begin_object ∷ key word ∷ mid = grind arith in
    let read = subst (λ o. IfSome o (λ a. (depth : ℕ) → BeginsWith (result_under word) (suc (suc (suc depth))) mid after (answer_view a))) c.in-Some-2.is c.in_ok-outcome.ensures in
    word_seen (suc (suc (suc depth))) c.args.reader.now mid after c.leave_object.new.reader word (answer_view c.in-Some-2.outcome) front (read depth) (c.if-leave_object.ensures yes)
