-- What the tests of a thread begin with, and marks of two threads, put together.
use Rattle.std.proofs.Common.{◌≡◌, ◌∙◌, ◌⊎◌, ⊎_elim, ℕ, Bool, true, false, List, length, get_or, [], sym, ap, subst, Vec, Global}
use Rattle.gq_types.specs.Entries.{EntryOf}
use Rattle.gq_merging.specs.Helping.GroupTables.{ArePassed, AreTested}
use Rattle.gq_merging.specs.Helping.SetTables.{RowOf}
use Rattle.gq_merging.specs.Helping.GroupViews.{groups_view}
use Rattle.gq_merging.proofs.GroupLemmas.{none_passed}

-- where no test began
pub no_groups_passed : (es : List EntryOf) (rows : List RowOf) (groups : List (Vec ℕ Global)) → groups ≡ [] → ArePassed es rows (groups_view groups)
no_groups_passed es rows groups none = subst (ArePassed es rows) (sym (ap groups_view none)) (none_passed es rows)

-- what is marked now was marked, or is marked among the others
abbrev pub AreOfBoth : (old others new : List Bool) → Type 0
AreOfBoth old others new = (n : ℕ) → get_or new n false ≡ true → (get_or old n false ≡ true) ⊎ (get_or others n false ≡ true)

-- marks of two threads are tested where those of each are
pub both_tested : (es : List EntryOf) (rows : List RowOf) (old others new : List Bool) → length new ≡ length old → AreOfBoth old others new →
    AreTested es rows old → AreTested es rows others → AreTested es rows new
both_tested es rows old others new count both before besides = record {
  count = count ∙ before.count;
  tested = λ n m. ⊎_elim (λ o. before.tested n o) (λ p. besides.tested n p) (both n m);
}
