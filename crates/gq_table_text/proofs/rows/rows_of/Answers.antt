use Rattle.std.proofs.Common.{true, rules, subst}
use Rattle.std.specs.Bool.{IsTrue}
use Rattle.std.specs.Option.{IfSome}
use Rattle.gq_table.specs.Views.{rows_view}
use Rattle.gq_table_text.specs.Helping.ReadAs.{BeginWithRows}
use Rattle.gq_table_text.proofs.RowLemmas.{table_seen}
use Rattle.gq_table_text.proofs.rows.rows_of.Goals as goal

pub returns-in-Some : goal.returns-in-Some
returns-in-Some c =
    let yes : IsTrue true = search rules in
    let read = subst (λ o. IfSome o (λ rows. BeginWithRows c.enter.new.reader c.rows_to_end.new.reader (rows_view rows.items))) c.in-Some.is c.in_ok-rows.ensures in
    table_seen c.args.reader.now c.enter.new.reader c.rows_to_end.new.reader (rows_view c.in-Some.rows.items) (c.if-not-enter.ensures yes) read (c.if-leave.ensures yes)
