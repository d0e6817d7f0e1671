-- What a contract sees of a `GapBuffer`.
use Rattle.std.specs.Prelude.{ℕ, List, refl}
use Rattle.std.specs.Coded.{Coded, code_by, coded×, coded_list, coded_ℕ}

-- the bytes, and how many of them the block holds
pub record Buffered : Type 0 where
  pub bytes : List ℕ
  pub capacity : ℕ

abbrev pub buffered : List ℕ → ℕ → Buffered
buffered xs n = record { bytes = xs; capacity = n }

abbrev pub buffered_code : Coded Buffered
buffered_code = code_by (List ℕ × ℕ) (coded× (coded_list coded_ℕ) coded_ℕ) (λ b. (b.bytes, b.capacity)) (λ p. buffered p.0 p.1) (λ _. refl)
