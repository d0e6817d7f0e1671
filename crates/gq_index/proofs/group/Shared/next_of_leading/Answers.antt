use Rattle.std.proofs.Common.{rules, ◌≡◌, ◌<◌, ◌+◌, length, ℕ, Vec, Global, subst, sym, ap, ◌∙◌, map, false}
use Rattle.std.proofs.lemmas.Result.{IfOk-weaker}
use Rattle.gq_graph.specs.Reach.{row}
use Rattle.gq_graph.proofs.Searching.{row_at}
use Rattle.gq_index.specs.Helping.Shared.{shared, operation_at}
use Rattle.gq_index.proofs.GroupLemmas.{leading_further}
use Rattle.gq_index.proofs.group.Shared.next_of_leading.Goals as goal

pub returns : goal.returns
returns c =
    let tables = c.args.self.now.tables.now in
    let s = shared tables c.args.self.now.name.now in
    let inside : c.args.number < length tables.spreading.items = subst (λ n. c.args.number < n) (sym tables.same_count) c.requires in
    let listed : c.deref.result.now ≡ row tables.spreading.items c.args.number = c.deref.ensures.value ∙ ap (λ (v : Vec ℕ Global). v.items) c.index.ensures ∙ sym (row_at tables.spreading.items c.args.number c.index.result.now inside) in
    let is : operation_at tables c.args.number ≡ false = search rules in
    let by : c.count-count.result + c.count-count.result ≡ s.count + s.count = search rules in
    IfOk-weaker c.further.result _ _
    (λ all made. made ∙ ap (λ b. map (λ j. b + j) c.deref.result.now) by ∙ ap (map (λ j. (s.count + s.count) + j)) listed ∙ sym (leading_further s c.args.number is))
    c.further.ensures
