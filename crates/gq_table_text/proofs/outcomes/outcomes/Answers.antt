use Rattle.std.proofs.Common.{◌<◌, ℕ, suc, List, length, map, refl, subst, sym, ◌∙◌, ap}
use Rattle.std.specs.Option.{IfSome}
use Rattle.json.specs.Token.{Token}
use Rattle.gq_table.specs.Json.{result_items, result_of}
use Rattle.gq_table.specs.Views.{answer_view}
use Rattle.gq_table_text.specs.Helping.ReadAs.{BeginsWith, AreReadBefore}
use Rattle.gq_table_text.proofs.TokenLemmas.{all_read, map_push, none_read, one_more}
use Rattle.gq_table_text.proofs.outcomes.outcomes.Goals as goal

pub loop-alloc-smaller : goal.loop-alloc-smaller
loop-alloc-smaller c =
    let next = c.one_outcome.new.reader in
    let read = subst (λ o. IfSome o (λ a. (depth : ℕ) → BeginsWith result_of (suc (suc depth)) c.take_end_array.new.self next (answer_view a))) c.in-Some.is c.in_ok-outcome.ensures in
    subst (λ (ts : List Token). length next < length ts) c.loop-alloc-test.ensures.1 (read 0).shorter

pub loop-alloc-init : goal.loop-alloc-init
loop-alloc-init c depth =
    subst (AreReadBefore result_items (suc (suc depth)) c.args.reader.now c.args.reader.now) (sym (ap (map answer_view) c.new-outcomes.ensures.items)) (none_read result_items (suc
    (suc depth)) c.args.reader.now)

pub loop-alloc-preserved : goal.loop-alloc-preserved
loop-alloc-preserved c depth =
    let next = c.one_outcome.new.reader in
    let least : ℕ = suc (suc depth) in
    let outcome = c.in-Some.outcome in
    let read = subst (λ o. IfSome o (λ a. (depth : ℕ) → BeginsWith result_of (suc (suc depth)) c.take_end_array.new.self next (answer_view a))) c.in-Some.is c.in_ok-outcome.ensures in
    let first = subst (λ ts. BeginsWith result_of least ts next (answer_view outcome)) c.loop-alloc-test.ensures.1 (read depth) in
    let rows = c.loop-alloc.outcomes.items in
    subst (AreReadBefore result_items least c.args.reader.now next) (sym (ap (map answer_view) c.in_ok-push-in-Some.ensures.items ∙ map_push answer_view rows outcome))
    (one_more result_of result_items (λ d ds. refl) least c.args.reader.now c.loop-alloc.reader next (map answer_view rows) (answer_view outcome) (c.loop-alloc.invariant depth)
    c.loop-alloc-test.ensures.0 first)

pub returns : goal.returns
returns c depth = all_read result_items refl (suc (suc depth)) c.args.reader.now c.loop-alloc.reader c.take_end_array.new.self (map answer_view c.loop-alloc.outcomes.items)
    (c.loop-alloc.invariant depth) c.loop-alloc-test.ensures
