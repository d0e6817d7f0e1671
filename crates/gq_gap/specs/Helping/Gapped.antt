-- What holds of the fields of a block with a gap.
use Rattle.std.specs.Prelude.{◌≡◌, ℕ, ◌≤◌}
use Rattle.std.specs.Mem.Slots.{slots_ptr, slots_len, slots_filled}
use Rattle.std.specs.Mem.Slots.Ownership.{Filled}
use Rattle.core.specs.declared.slots.Slots.{Slots}
use Rattle.gq_gap.specs.declared.block.Base.{Base}
use Rattle.gq_gap.specs.declared.block.Deed.{Deed}

-- the pointer is to the row, and the deed is the right to give it back to the allocator
pub record IsBlock {X A : Type 0} (base : Base X) (row : Slots X) (deed : Deed X A) (alloc : A) : Type 0 where
  pub base_at : base.ptr ≡ slots_ptr row
  pub deed_at : deed.at ≡ slots_ptr row
  pub deed_len : deed.len ≡ slots_len row
  pub deed_alloc : deed.alloc ≡ alloc

-- the places before the start of the gap hold bytes, and so do those from its end on
pub record IsGap (row : Slots ℕ) (start end : ℕ) : Type 0 where
  pub ordered : start ≤ end
  pub in_bounds : end ≤ slots_len row
  pub front : Filled (slots_filled row) 0 start
  pub back : Filled (slots_filled row) end (slots_len row)
