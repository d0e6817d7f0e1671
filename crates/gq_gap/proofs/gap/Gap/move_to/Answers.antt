use Rattle.std.proofs.Common.{◌≡◌, ℕ, ◌+◌, ◌-◌, ◌≤◌, ◌++◌, length, take, drop, sym, subst, ◌∙◌, arith, length-append, length-drop}
use Rattle.std.specs.Mem.Slots.{slots_counts, slots_items, slots_len}
use Rattle.std.proofs.lemmas.List.{length-take-le}
use Rattle.gq_gap.specs.declared.gap.Gap.TheInside.{Inside}
use Rattle.gq_gap.specs.Parted.{Parted, parted}
use Rattle.gq_gap.proofs.Moves.{left_front, left_back, right_front, right_back}
use Rattle.gq_gap.proofs.gap.Gap.move_to.Goals as goal
use Rattle.gq_gap.proofs.gap.Gap.move_to.Goals.{then-at-self, else-at-self}

abbrev Parts : ℕ → Inside → Parted → Type 0
Parts at g p = parted (take at (slots_items g.row)) (drop g.end (slots_items g.row)) (slots_len g.row) ≡ parted (take at (p.front ++ p.back)) (drop at (p.front ++ p.back)) p.capacity

pub returns : goal.returns
returns c =
    let g = c.self.inside in let xs = slots_items g.row in let at = c.args.at in let s = g.start in let e = g.end in let k = c.self.invariant.1 in let ordered = k.ordered in let bounded = k.in_bounds in
    let all : slots_len g.row ≡ length xs = (slots_counts g.row).0 in
    let low : at ≤ length (take s xs ++ drop e xs) = subst (λ (p : Parted). at ≤ length (p.front ++ p.back)) (sym c.self.view_is) c.requires in
    let within : at + e ≤ s + length xs = omega (arith, length-append (take s xs) (drop e xs), length-take-le s xs (omega arith), length-drop e xs) in
    elim c.if-at-self.branch [
      | then-at-self w ↦
          let row = w.move_within.new.self in let ys = slots_items row in let n = s - at in let m = w.move_within.ensures in let lt = w.if-at-self.true in
          let count : slots_len row ≡ slots_len g.row = m.places.count in let same : length ys ≡ length xs = sym (slots_counts row).0 ∙ count ∙ all in
          let front = left_front xs ys same s e ordered (omega arith) at n (omega arith) m.moved m.items in
          let back = left_back xs ys same s e ordered (omega arith) at n (omega arith) m.moved m.items in
          subst (λ (i : Inside). Parts at i c.args.self.now) (sym w.self-inside-is) (subst (Parts at (record g { row = row; end = e - n })) c.self.view_is (λ i. parted (front i) (back i) (count i)))
      | else-at-self w ↦
          let row = w.move_within-else-at-self.new.self in let ys = slots_items row in let n = at - s in let m = w.move_within-else-at-self.ensures in let le = w.if-at-self.false in
          let count : slots_len row ≡ slots_len g.row = m.places.count in let same : length ys ≡ length xs = sym (slots_counts row).0 ∙ count ∙ all in
          let front = right_front xs ys same s e ordered (omega arith) at n (omega arith) (omega arith) m.moved m.items in
          let back = right_back xs ys same s e ordered (omega arith) at n (omega arith) (omega arith) m.moved m.items in
          subst (λ (i : Inside). Parts at i c.args.self.now) (sym w.self-inside-is) (subst (Parts at (record g { row = row; end = e + n })) c.self.view_is (λ i. parted (front i) (back i) (count i)))
    ]
