use Rattle.std.proofs.Common.{◌≡◌, List, ℕ, Vec, Global, map, subst}
use Rattle.std.specs.List.{enumerate_from}
use Rattle.std.proofs.lemmas.Result.{IfOk-weaker}
use Rattle.gq_types.specs.Entries.{Text}
use Rattle.gq_document.specs.Definitions.{fragments_view}
use Rattle.gq_spreads.specs.Helping.NameRows.{row_at, AreNameRows}
use Rattle.gq_spreads.specs.Helping.Rows.{row_items}
use Rattle.gq_spreads.proofs.NameRowLemmas.{are_name_rows}
use Rattle.gq_spreads.proofs.name_rows.name_rows.Goals as goal

pub returns : goal.returns
returns c =
    let fs = fragments_view c.args.fragments.now in
    IfOk-weaker c.rows_of.result (λ (rows : Vec (Vec ℕ Global) Global). row_items rows.items ≡ map (row_at c.args.names.now.names.items fs) (enumerate_from 0 c.args.names.now.names.items))
    (λ rows. AreNameRows fs rows.items)
    (λ rows is. are_name_rows fs rows.items (subst (λ (ts : List Text). row_items rows.items ≡ map (row_at ts fs) (enumerate_from 0 ts)) c.requires is))
    c.rows_of.ensures
