use Rattle.std.proofs.Common.{◌≡◌, ◌<◌, get_or, length, arith, inl, inr}
use Rattle.gq_table_text.proofs.NumberLemmas.{natural_seen, spelled}
use Rattle.gq_table_text.proofs.leaves.natural.Goals as goal

pub returns-then-number-2-clause-spelling : goal.returns-then-number-2-clause-spelling
returns-then-number-2-clause-spelling c =
    let bytes = c.as_bytes-bytes.result.now in
    let some : 0 < length bytes = grind arith in
    let alone : get_or bytes 0 0 ≡ 48 → length bytes ≡ 1 = λ zero. elim c.if-bytes-gt1.either [
      | inl both ↦ omega (arith, both.1, some)
      | inr other ↦ absurd (other zero)
    ] in
    spelled bytes c.args.text.now c.loop-byte.number c.loop-byte.byte-index c.as_bytes-bytes.ensures.value some alone c.loop-byte-test.false c.loop-byte.invariant
    (omega (arith, c.if-number-2.true))

pub returns-then-number-2-clause-is : goal.returns-then-number-2-clause-is
returns-then-number-2-clause-is c = natural_seen c.args.text.now c.loop-byte.number (returns-then-number-2-clause-spelling c) c.if-number-2.true
