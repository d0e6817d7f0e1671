-- A rename changes one name at most.
use Rattle.std.proofs.Common.{ℕ, Bool, true, false, List, sym, ◌∙◌}
use Rattle.std.specs.Prelude.{◌==◌, if◌then◌else◌}
use Rattle.std.specs.List.{list_any}
use Rattle.std.specs.Cmp.Lexicographic.{bytes_decides}
use Rattle.gq_renamed.specs.Renamings.{fragment_called, variable_called, nothing_renamed}
use Rattle.gq_cut.specs.Cut.{variable_in}
use Rattle.gq_meaning.specs.Values.{Text}
use Rattle.gq_laws.specs.Renaming.Helping.Alike.{RenamesOne}

pub no_variable : (old : Text) → RenamesOne (fragment_called old)
no_variable old u v p q = absurd (cc)

pub one_variable : (group : List ℕ) (old : Text) (n : ℕ) → RenamesOne (variable_in group old n)
one_variable group old n = by (list_any (λ m. m == n) group)
  where
    by : (b : Bool) → RenamesOne (if b then variable_called old else nothing_renamed)
    by true u v p q = (bytes_decides u old).0 p ∙ sym ((bytes_decides v old).0 q)
    by false u v p q = absurd (cc)
