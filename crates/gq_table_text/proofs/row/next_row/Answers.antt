use Rattle.std.proofs.Common.{ℕ, suc, map, true, rules, subst}
use Rattle.std.specs.Bool.{IsTrue}
use Rattle.std.specs.Option.{IfSome}
use Rattle.gq_table.specs.Json.{arguments_of, result_of}
use Rattle.gq_table.specs.Views.{answer_view, entry_view}
use Rattle.gq_table_text.specs.Helping.ReadAs.{BeginsWith}
use Rattle.gq_table_text.proofs.RowLemmas.{row_seen}
use Rattle.gq_table_text.proofs.row.next_row.Goals as goal

pub returns : goal.returns
returns c =
    let yes : IsTrue true = search rules in
    let head = c.in-Some.head in
    let rest = c.enter_row.new.reader in
    let after = c.arguments.new.reader in
    let mid = c.enter_member.new.reader in
    let last = c.outcome.new.reader in
    let new = c.leave_object.new.reader in
    let entries = subst (λ o. IfSome o (λ es. BeginsWith arguments_of 124 rest after (map entry_view es.items))) c.in-Some-2.is c.in_ok-arguments.ensures in
    let read = subst (λ o. IfSome o (λ a. (depth : ℕ) → BeginsWith result_of (suc (suc (suc (suc depth)))) mid last (answer_view a))) c.in-Some-3.is c.in_ok-result.ensures in
    rw (c.in_ok-from_str.ensures.text, c.in_ok-from_str-2.ensures.text)
    (row_seen c.args.reader.now rest after mid last new head.type_name.now head.field.now head.number (map entry_view c.in-Some-2.arguments.items) (answer_view c.in-Some-3.result)
    c.in-Some.ensures entries (c.if-not-enter_member.ensures yes) (read 120) (c.if-not-leave_object.ensures yes))
