use Rattle.std.proofs.Common.{◌≡◌, ◌∙◌, ◌+◌, List, length, ap, arith}
use Rattle.std.proofs.Math.Logic.{∥∥₁_elim}
use Rattle.gq_index.specs.declared.occurrence.Occurrence.{Occurrence}
use Rattle.gq_reshape.proofs.Free.{one_is_free, places_count}
use Rattle.gq_reshape.proofs.naming.free_number.Goals as goal

pub returns-then-branch : goal.returns-then-branch
returns-then-branch c ds is = record {
  positive = omega arith;
  free = (c.in_ok-is_free.ensures ds is).0 c.if-branch.true;
  least = λ m some less free. c.loop-before.invariant ds is m some (omega (arith, less)) free;
}

pub unreachable-requires : goal.unreachable-requires
unreachable-requires c =
    let few = c.places.type_inv.1 in
    let past = c.loop-before-test.false in
    ∥∥₁_elim c.requires (λ x y. absurd x) (λ indexed.
    let ds = indexed.0 in
    let count : length c.places.result.now ≡ length ds = ap (λ (os : List Occurrence). length os) (c.places.ensures ds indexed.1) ∙ places_count ds in
    one_is_free ds (length c.places.result.now + 1) (omega (arith, count)) (omega (arith, few)) (λ m some low. c.loop-before.invariant ds indexed.1 m some (omega (arith, past, low))))
