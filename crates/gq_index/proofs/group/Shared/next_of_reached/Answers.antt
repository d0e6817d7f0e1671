use Rattle.std.proofs.Common.{rules, ◌≡◌, ◌+◌, ℕ, Vec, Global, sym, ap, ◌∙◌, map, true, false, ◌++◌, ◌∷◌, []}
use Rattle.gq_graph.specs.Reach.{row}
use Rattle.gq_graph.proofs.Searching.{row_at}
use Rattle.gq_index.specs.Helping.Shared.{shared, uses_at}
use Rattle.gq_index.proofs.GroupLemmas.{reached_user, reached_other}
use Rattle.gq_index.proofs.group.Shared.next_of_reached.Goals as goal
use Rattle.gq_index.proofs.group.Shared.next_of_reached.Goals.{then-uses+in_ok-push, else-uses}

pub returns : goal.returns
returns c =
    let tables = c.args.self.now.tables.now in
    let text = c.args.self.now.name.now in
    let s = shared tables text in
    let listed : c.deref.result.now ≡ row tables.spread_in.items c.args.number = c.deref.ensures.value ∙ ap (λ (v : Vec ℕ Global). v.items) c.index.ensures ∙ sym (row_at tables.spread_in.items c.args.number c.index.result.now c.requires) in
    let by : c.count.result ≡ s.count = search rules in
    let made : c.in_ok-all.all.items ≡ map (λ j. s.count + j) (s.spread_in c.args.number) = c.in_ok-all.ensures ∙ ap (λ b. map (λ j. b + j) c.deref.result.now) by ∙ ap (map (λ j. s.count + j)) listed in
    elim c.if-uses.branch [
      | then-uses+in_ok-push w ↦
          let used : uses_at tables text c.args.number ≡ true = search rules in
          ap (λ (v : Vec ℕ Global). v.items) w.all-is ∙ w.in_ok-push.ensures.items ∙ ap (λ l. l ++ c.args.number ∷ []) made ∙ sym (reached_user s c.args.number used)
      | else-uses w ↦
          let unused : uses_at tables text c.args.number ≡ false = search rules in
          ap (λ (v : Vec ℕ Global). v.items) w.all-is ∙ made ∙ sym (reached_other s c.args.number unused)
    ]
