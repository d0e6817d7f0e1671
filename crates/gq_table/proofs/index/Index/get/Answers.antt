use Rattle.std.proofs.Common.{◌≡◌, Option, sym, ◌∙◌, ap, subst, IfOk}
use Rattle.std.specs.Option.{option_map}
use Rattle.gq_meaning.specs.Results.{Answer}
use Rattle.gq_table.specs.Helping.Index.{row_numbered, first_in}
use Rattle.gq_table.specs.Views.{answer_view, rows_view, row_view, call_of}
use Rattle.gq_table.proofs.IndexLemmas.{none_found, found_here, found_other}
use Rattle.gq_table.proofs.index.Index.get.Goals as goal

pub returns-in_default : goal.returns-in_default
returns-in_default c =
    let rows = rows_view c.args.rows.now in
    let at = ap (λ d. row_numbered rows (first_in c.args.self.now d)) (sym c.bucket.ensures.is) ∙ sym c.first.ensures ∙ ap (option_map (λ r. row_view r.now)) c.in_default.is in
    sym (none_found c.args.self.now rows rows c.requires (call_of c.args.call) at)

pub returns-in-Some-result_of : goal.returns-in-Some-result_of
returns-in-Some-result_of c =
    let rows = rows_view c.args.rows.now in
    let at = ap (λ d. row_numbered rows (first_in c.args.self.now d)) (sym c.bucket.ensures.is) ∙ sym c.first.ensures ∙ ap (option_map (λ r. row_view r.now)) c.in-Some.is in
    let is = sym c.result_of.ensures ∙ ap (option_map (λ r. answer_view r.now)) c.in-Some-result_of.is in
    sym (found_here c.args.self.now rows rows c.requires (call_of c.args.call) (row_view c.in-Some.first.now) (answer_view c.in-Some-result_of.result.now) at is)

pub returns-in-None : goal.returns-in-None
returns-in-None c =
    let rows = rows_view c.args.rows.now in
    let at = ap (λ d. row_numbered rows (first_in c.args.self.now d)) (sym c.bucket.ensures.is) ∙ sym c.first.ensures ∙ ap (option_map (λ r. row_view r.now)) c.in-Some.is in
    let is = sym c.result_of.ensures ∙ ap (option_map (λ r. answer_view r.now)) c.in-None.is in
    let found = found_other c.args.self.now rows rows c.requires (call_of c.args.call) (row_view c.in-Some.first.now) at is in
    subst (λ (answer : Option Answer). IfOk c.result_under.result (λ o. option_map (λ r. answer_view r.now) o ≡ answer)) (sym found) c.result_under.ensures
