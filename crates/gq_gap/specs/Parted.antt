-- What a contract sees of a block with a gap, and what a buffer with such a block is.
use Rattle.std.specs.Prelude.{ℕ, List, [], ◌++◌, Option, Some, None, refl}
use Rattle.std.specs.Coded.{Coded, code_by, coded×, coded_list, coded_ℕ}
use Rattle.gq_gap.specs.Buffered.{Buffered, buffered}

-- the bytes in front of the gap, those behind it, and how many bytes the block holds
pub record Parted : Type 0 where
  pub front : List ℕ
  pub back : List ℕ
  pub capacity : ℕ

abbrev pub parted : List ℕ → List ℕ → ℕ → Parted
parted xs ys n = record { front = xs; back = ys; capacity = n }

abbrev pub parted_code : Coded Parted
parted_code = code_by (List ℕ × (List ℕ × ℕ)) (coded× (coded_list coded_ℕ) (coded× (coded_list coded_ℕ) coded_ℕ)) (λ p. (p.front, (p.back, p.capacity))) (λ t. parted t.0 t.1.0 t.1.1) (λ _. refl)

-- with no block a buffer is empty, and with one it holds what stands in front of the gap and what stands behind it
abbrev pub of_block : Option Parted → Buffered
of_block None = buffered [] 0
of_block (Some p) = buffered (p.front ++ p.back) p.capacity
