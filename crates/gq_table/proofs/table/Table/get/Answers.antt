use Rattle.std.proofs.Common.{◌≡◌, ◌≤◌, ◌∙◌, ap}
use Rattle.std.specs.Option.{IfSome, option_map}
use Rattle.std.proofs.lemmas.Result.{IfOk-weaker}
use Rattle.gq_meaning.specs.Depth.{depth}
use Rattle.gq_table.specs.Rows.{deepest, row_of}
use Rattle.gq_table.specs.Views.{answer_view, rows_view, call_of}
use Rattle.gq_table.proofs.IndexLemmas.{within_deepest}
use Rattle.gq_table.proofs.table.Table.get.Goals as goal

pub returns-clause-within : goal.returns-clause-within
returns-clause-within c =
    let rows = rows_view c.args.self.now in
    let call = call_of c.args.call in
    let same = ap (λ rs. row_of (rows_view rs) call) (c.deref.ensures.value ∙ c.self.view_is) in
    IfOk-weaker c.get.result (λ o. option_map (λ r. answer_view r.now) o ≡ row_of (rows_view c.deref.result.now) call) (λ o. IfSome o (λ r. depth (answer_view r.now).below ≤ deepest rows))
    (λ o is. within_deepest (λ r. answer_view r.now) rows call o (is ∙ same)) c.get.ensures
