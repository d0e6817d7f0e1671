use Rattle.std.proofs.Common.{◌≤◌, ℕ, List, length, subst, sym, arith}
use Rattle.std.proofs.lemmas.Grind.{common_steps}
use Rattle.gq_gap.proofs.Moves.{cut_apart}
use Rattle.gq_gap.proofs.buffer.GapBufferBuffer.copy_out.Goals as goal

pub returns : goal.returns
returns c =
    let xs = c.halves.result.0.now in let ys = c.halves.result.1.now in
    let within = subst (λ (zs : List ℕ). c.args.to ≤ length zs) (sym c.halves.ensures) c.requires.in_bounds in
    let part = cut_apart xs ys c.args.from c.args.to c.requires.ordered within in grind (arith, common_steps, part)
