-- What comes from one definition, and comes from it too where it stands among others or in another document.
use Rattle.std.proofs.Common.{◌≡◌, ℕ, List, Contains, refl, ◌∙◌}
use Rattle.gq_types.specs.Entries.{EntryOf}
use Rattle.gq_fault.specs.declared.fault.Fault.{Fault}
use Rattle.gq_document.specs.Definitions.{OperationOf, FragmentOf}
use Rattle.gq_document.specs.Selections.{SelectedOf, IsSelected}
use Rattle.gq_document.specs.Selections as selections
use Rattle.gq_document.specs.Executable.{ExecutableOf}
use Rattle.gq_rules.specs.Files.{in_file}
use Rattle.gq_by_file.proofs.OneFile.Numbers.{operation_to, fragment_to}

-- one definition, of the number n
pub data ComesFrom (os : List OperationOf) (gs : List FragmentOf) (P : List OperationOf → List FragmentOf → ℕ → Type 0) (n : ℕ) : Type 0 where
  from_operation : {o : OperationOf} → Contains os o → n ≡ o.file →
      ((m : ℕ) (ps : List OperationOf) (hs : List FragmentOf) → Contains ps (operation_to m o) → P ps hs m) → ComesFrom os gs P n
  from_fragment : {g : FragmentOf} → Contains gs g → n ≡ g.file →
      ((m : ℕ) (ps : List OperationOf) (hs : List FragmentOf) → Contains hs (fragment_to m g) → P ps hs m) → ComesFrom os gs P n

pub weaken : {os : List OperationOf} {gs : List FragmentOf} {P : List OperationOf → List FragmentOf → ℕ → Type 0} (Q : List OperationOf → List FragmentOf → ℕ → Type 0) {n k : ℕ} →
    k ≡ n → ((ps : List OperationOf) (hs : List FragmentOf) (m : ℕ) → P ps hs m → Q ps hs m) → ComesFrom os gs P n → ComesFrom os gs Q k
weaken Q e so (from_operation c is h) = from_operation c (e ∙ is) (λ m ps hs d. so ps hs m (h m ps hs d))
weaken Q e so (from_fragment c is h) = from_fragment c (e ∙ is) (λ m ps hs d. so ps hs m (h m ps hs d))

abbrev pub executable : List EntryOf → List OperationOf → List FragmentOf → ExecutableOf
executable es os gs = record { entries = es; operations = os; fragments = gs }

-- each fault comes from one definition
abbrev pub AreLocal : (ExecutableOf → Fault → Type 0) → Type 0
AreLocal F = (es : List EntryOf) (os : List OperationOf) (gs : List FragmentOf) (f : Fault) → F (executable es os gs) f → ComesFrom os gs (λ ps hs m. F (executable es ps hs) (in_file m f)) f.file

abbrev pub selected_to : ℕ → SelectedOf → SelectedOf
selected_to m s = record s { file = m }

pub selected_comes : (es : List EntryOf) {os : List OperationOf} {gs : List FragmentOf} {s : SelectedOf} → IsSelected es os gs s →
    ComesFrom os gs (λ ps hs m. IsSelected es ps hs (selected_to m s)) s.file
selected_comes es (selections.of_operation c w) = from_operation c w.0 (λ m ps hs d. selections.of_operation d (refl, w.1))
selected_comes es (selections.of_fragment c w) = from_fragment c w.0 (λ m ps hs d. selections.of_fragment d (refl, w.1))
