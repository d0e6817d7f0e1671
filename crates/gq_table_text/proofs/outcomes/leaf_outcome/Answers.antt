use Rattle.std.proofs.Common.{◌≡◌, ◌∷◌, ℕ, suc, codes, sym, subst, arith}
use Rattle.std.specs.Option.{IfSome}
use Rattle.json.specs.Reads.{token_of}
use Rattle.gq_meaning.specs.Results.{Answer}
use Rattle.gq_table.specs.Json.{result_under}
use Rattle.gq_table.specs.Views.{leaf_view}
use Rattle.gq_table.proofs.Trees.{view_leaf_result}
use Rattle.gq_table_text.specs.Helping.ReadAs.{BeginsWith, IsPlain}
use Rattle.gq_table_text.proofs.OutcomeLemmas.{leaf_seen}
use Rattle.gq_table_text.proofs.outcomes.leaf_outcome.Goals as goal

pub returns-in-Some-2 : goal.returns-in-Some-2
returns-in-Some-2 c =
    let old = c.args.reader.now in
    let new = c.next.new.self in
    let t = token_of c.in-Some.token in
    let v = leaf_view c.in-Some-2.leaf in
    let front : old ≡ t ∷ new = grind arith in
    let plain = subst (λ o. IfSome o (λ leaf. IsPlain t (leaf_view leaf))) c.in-Some-2.is c.in_ok-leaf.ensures in
    subst (λ (a : Answer). (depth : ℕ) → BeginsWith (result_under (codes "leaf")) (suc depth) old new a) (sym (view_leaf_result c.in-Some-2.leaf)) (leaf_seen old new t v front plain)
