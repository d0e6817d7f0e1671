use Rattle.std.proofs.Common.{◌≡◌, ◌<◌, ap, sym, subst, ◌∙◌, length, List, ℕ, Vec, Global}
use Rattle.std.specs.Prelude.{All}
use Rattle.gq_graph.specs.Reach.{row}
use Rattle.gq_graph.proofs.Searching.{row_at as read_row}
use Rattle.gq_variables.specs.Helping.Behind.{AreBehindStarts}
use Rattle.gq_variables.specs.Helping.Views.{uses_view, rows_view}
use Rattle.gq_variables.proofs.behind.Behind.of.Goals as goal

pub uses_behind-requires-clause-starts : goal.uses_behind-requires-clause-starts
uses_behind-requires-clause-starts c =
    let rows : List (Vec ℕ Global) = c.args.spreads.now.of_operations.items in
    let starts : c.deref-2.result.now ≡ row rows c.args.number =
    c.deref-2.ensures.value ∙ ap (λ (v : Vec ℕ Global). v.items) c.index-starts.ensures ∙ sym (read_row rows c.args.number c.index-starts.result.now c.requires.number) in
    subst (λ (all : List (Vec ℕ Global)). All (λ k. k < length all) c.deref-2.result.now) (sym c.deref.ensures.value)
    (subst (λ (ns : List ℕ). All (λ k. k < length c.args.spreads.now.of_fragments.items) ns) (sym starts) c.requires.starts)

pub returns : goal.returns
returns c =
    let rows : List (Vec ℕ Global) = c.args.spreads.now.of_operations.items in
    let starts : c.deref-2.result.now ≡ row rows c.args.number =
    c.deref-2.ensures.value ∙ ap (λ (v : Vec ℕ Global). v.items) c.index-starts.ensures ∙ sym (read_row rows c.args.number c.index-starts.result.now c.requires.number) in
    subst (λ (all : List (Vec ℕ Global)). AreBehindStarts (rows_view c.args.rows.now) all (row rows c.args.number) (uses_view c.in_ok-uses.uses.items)) c.deref.ensures.value
    (subst (λ (ns : List ℕ). AreBehindStarts (rows_view c.args.rows.now) c.deref.result.now ns (uses_view c.in_ok-uses.uses.items)) starts c.in_ok-uses.ensures)
