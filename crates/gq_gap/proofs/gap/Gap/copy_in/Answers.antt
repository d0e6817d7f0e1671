use Rattle.std.proofs.Common.{◌≡◌, ◌+◌, ◌≤◌, List, ◌++◌, ℕ, length, take, drop, ap, sym, subst, ◌∙◌, arith, length-drop}
use Rattle.std.specs.Mem.Slots.{slots_counts, slots_items, slots_len}
use Rattle.std.proofs.lemmas.List.{length-take-le}
use Rattle.gq_gap.specs.Parted.{Parted, parted}
use Rattle.gq_gap.proofs.Moves.{put_front, put_back}
use Rattle.gq_gap.proofs.gap.Gap.copy_in.Goals as goal

pub returns : goal.returns
returns c =
    let g = c.self.inside in let xs = slots_items g.row in let bs = c.args.bytes.now in let row = c.copy_in.new.self in let k = c.self.invariant.1 in let ordered = k.ordered in let bounded = k.in_bounds in
    let all : slots_len g.row ≡ length xs = (slots_counts g.row).0 in
    let fits : length (take g.start xs) + length bs + length (drop g.end xs) ≤ slots_len g.row = subst (λ (p : Parted). length p.front + length bs + length p.back ≤ p.capacity) (sym c.self.view_is) c.requires in
    let room : g.start + length bs ≤ g.end = omega (arith, length-take-le g.start xs (omega arith), length-drop g.end xs) in
    let front : take (g.start + length bs) (slots_items row) ≡ take g.start xs ++ bs = ap (λ (ys : List ℕ). take (g.start + length bs) ys) c.copy_in.ensures.items ∙ put_front xs bs g.start (omega arith) in
    let back : drop g.end (slots_items row) ≡ drop g.end xs = ap (λ (ys : List ℕ). drop g.end ys) c.copy_in.ensures.items ∙ put_back xs bs g.start (omega arith) g.end room (omega arith) in
    let count : slots_len row ≡ slots_len g.row = c.copy_in.ensures.places.count in
    subst (λ (p : Parted). parted (take (g.start + length bs) (slots_items row)) (drop g.end (slots_items row)) (slots_len row) ≡ parted (p.front ++ bs) p.back p.capacity) c.self.view_is (λ i. parted (front i) (back i) (count i))
