use Rattle.std.proofs.Common.{◌≡◌, ◌∷◌, ℕ, suc, codes, map, sym, subst, arith}
use Rattle.std.specs.Option.{IfSome}
use Rattle.json.specs.Token.{begin_array}
use Rattle.gq_meaning.specs.Results.{Answer}
use Rattle.gq_table.specs.Json.{result_items, result_under}
use Rattle.gq_table.specs.Views.{answer_view}
use Rattle.gq_table.proofs.Trees.{view_list_result}
use Rattle.gq_table_text.specs.Helping.ReadAs.{BeginsWith, BeginWithItems}
use Rattle.gq_table_text.proofs.OutcomeLemmas.{list_seen}
use Rattle.gq_table_text.proofs.outcomes.list.Goals as goal

pub returns-in-Some : goal.returns-in-Some
returns-in-Some c =
    let old = c.args.reader.now in
    let mid = c.next.new.self in
    let new = c.outcomes.new.reader in
    let answers = map answer_view c.in-Some.outcomes.items in
    let front : old ≡ begin_array ∷ mid = grind arith in
    let read = subst (λ o. IfSome o (λ os. (depth : ℕ) → BeginWithItems result_items (suc (suc depth)) mid new (map answer_view os.items))) c.in-Some.is c.in_ok-outcomes.ensures in
    subst (λ (a : Answer). (depth : ℕ) → BeginsWith (result_under (codes "list")) (suc (suc (suc depth))) old new a) (sym (view_list_result c.in-Some.outcomes))
    (list_seen old mid new answers front read)
