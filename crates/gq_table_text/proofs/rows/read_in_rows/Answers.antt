use Rattle.std.proofs.Common.{◌≡◌, true, subst, ◌∙◌, ap}
use Rattle.std.specs.Option.{IfSome}
use Rattle.std.specs.Str.{is_utf8}
use Rattle.std.proofs.lemmas.Str.{is_utf8-from_IsUtf8}
use Rattle.json.specs.Lex.{tokens}
use Rattle.serde_json.specs.Read.{read}
use Rattle.gq_table.specs.Views.{rows_view}
use Rattle.gq_table_text.specs.Helping.ReadAs.{AreRowsOf}
use Rattle.gq_table_text.proofs.RowLemmas.{table_made}
use Rattle.gq_table_text.proofs.rows.read_in_rows.Goals as goal

pub returns-in-Some : goal.returns-in-Some
returns-in-Some c =
    let bytes = c.args.bytes.now in
    let rows = c.in-Some.rows.items in
    let utf8 : is_utf8 bytes ≡ true = is_utf8-from_IsUtf8 bytes c.in-Ok.ensures.cases.1 in
    let seen = subst (λ o. IfSome o (λ rs. AreRowsOf c.in_ok-reader.reader (rows_view rs.items))) c.in-Some.is c.in_ok-rows.ensures in
    let here = subst (λ ts. AreRowsOf ts (rows_view rows)) (c.in_ok-reader.ensures.ok ∙ ap tokens c.in-Ok.ensures.cases.0) seen in
    table_made c.of.result (read bytes) rows (is_utf8 bytes ≡ true) utf8 here c.of.ensures.some c.of.ensures.is
