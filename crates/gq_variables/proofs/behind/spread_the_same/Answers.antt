use Rattle.std.proofs.Common.{◌≡◌, ap, sym, ◌∙◌, List, ℕ, Vec, Global}
use Rattle.std.specs.Cmp.Lexicographic.{same_text}
use Rattle.gq_graph.specs.Reach.{row}
use Rattle.gq_graph.proofs.Searching.{row_at as read_row}
use Rattle.gq_variables.proofs.behind.spread_the_same.Goals as goal

pub returns : goal.returns
returns c = λ alike.
    let rows : List (Vec ℕ Global) = c.args.spreads.now.of_operations.items in
    let same : c.index.result.now.items ≡ c.index-2.result.now.items = same_text c.index.result.now.items c.index-2.result.now.items (sym alike ∙ c.eq.ensures) in
    let earlier : row rows c.args.before ≡ c.index.result.now.items = read_row rows c.args.before c.index.result.now c.requires.before ∙ ap (λ (v : Vec ℕ Global). v.items) (sym c.index.ensures) in
    let later : row rows c.args.number ≡ c.index-2.result.now.items = read_row rows c.args.number c.index-2.result.now c.requires.number ∙ ap (λ (v : Vec ℕ Global). v.items) (sym c.index-2.ensures) in
    earlier ∙ same ∙ sym later
