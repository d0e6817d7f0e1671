use Rattle.std.proofs.Common.{rules, ◌≡◌, ◌<◌, ◌+◌, length, ℕ, Vec, Global, subst, sym, ap, ◌∙◌, map, true, false}
use Rattle.std.proofs.lemmas.Result.{IfOk-weaker}
use Rattle.gq_graph.specs.Reach.{row}
use Rattle.gq_graph.proofs.Searching.{row_at}
use Rattle.gq_index.specs.Helping.Shared.{shared, operation_at, uses_at}
use Rattle.gq_index.proofs.GroupLemmas.{leads_operation, leads_user}
use Rattle.gq_index.proofs.group.Shared.next_of_member.Goals as goal

pub returns-then-is_operation : goal.returns-then-is_operation
returns-then-is_operation c =
    let tables = c.args.self.now.tables.now in
    let s = shared tables c.args.self.now.name.now in
    let listed : c.deref.result.now ≡ row tables.spread_in.items c.args.number = c.deref.ensures.value ∙ ap (λ (v : Vec ℕ Global). v.items) c.index.ensures ∙ sym (row_at tables.spread_in.items c.args.number c.index.result.now c.requires) in
    let is : operation_at tables c.args.number ≡ true = search rules in
    let by : c.count-count.result ≡ s.count = search rules in
    IfOk-weaker c.further.result _ _
    (λ all made. made ∙ ap (λ b. map (λ j. b + j) c.deref.result.now) by ∙ ap (map (λ j. s.count + j)) listed ∙ sym (leads_operation s c.args.number is))
    c.further.ensures

pub returns-then-uses : goal.returns-then-uses
returns-then-uses c =
    let tables = c.args.self.now.tables.now in
    let s = shared tables c.args.self.now.name.now in
    let inside : c.args.number < length tables.spreading.items = subst (λ n. c.args.number < n) (sym tables.same_count) c.requires in
    let listed : c.deref-then-uses.result.now ≡ row tables.spreading.items c.args.number = c.deref-then-uses.ensures.value ∙ ap (λ (v : Vec ℕ Global). v.items) c.index-then-uses.ensures ∙ sym (row_at tables.spreading.items c.args.number c.index-then-uses.result.now inside) in
    let is : operation_at tables c.args.number ≡ false = search rules in
    let used : uses_at tables c.args.self.now.name.now c.args.number ≡ true = search rules in
    let by : c.count-count.result + c.count-count.result ≡ s.count + s.count = search rules in
    IfOk-weaker c.further-then-uses.result _ _
    (λ all made. made ∙ ap (λ b. map (λ j. b + j) c.deref-then-uses.result.now) by ∙ ap (map (λ j. (s.count + s.count) + j)) listed ∙ sym (leads_user s c.args.number is used))
    c.further-then-uses.ensures
