-- Names of two files, or of one before and after a change, that are the same.
use Rattle.std.specs.Prelude.{◌≡◌}
use Rattle.gq_by_file.specs.declared.names.FileNames.{FileNames}

-- the same names, in the same order
pub record AreSameNames (a b : FileNames) : Type 0 where
  pub operations : a.operations.items ≡ b.operations.items
  pub spreads : a.spreads.items ≡ b.spreads.items
  pub fragments : a.fragments.items ≡ b.fragments.items
