-- The same operations and fragments in documents of other numbers, which stand in the same order.
use Rattle.std.proofs.Common.{◌≡◌, ℕ, ◌<◌, List, Contains}
use Rattle.gq_fault.specs.declared.code.Code.{Code}
use Rattle.gq_fault.specs.declared.fault.Fault.{Fault}
use Rattle.gq_types.specs.Entries.{EntryOf}
use Rattle.gq_document.specs.Definitions.{OperationOf, FragmentOf}
use Rattle.gq_document.specs.Executable.{ExecutableOf}
use Rattle.gq_by_file.proofs.OneFile.Numbers.{operation_to, fragment_to}

abbrev pub made : List EntryOf → List OperationOf → List FragmentOf → ExecutableOf
made es os gs = record { entries = es; operations = os; fragments = gs }

-- Each of the ones stands among the others, in a document of the number that answers to its own, and each fragment of the others among the ones. The numbers
-- that answer to numbers ascend with them.
pub record AreRenumbered (Is : ℕ → ℕ → Type 0) (os ps : List OperationOf) (gs hs : List FragmentOf) : Type 0 where
  pub operation : (o : OperationOf) → Contains os o → (n : ℕ) × Is o.file n × Contains ps (operation_to n o)
  pub fragment : (g : FragmentOf) → Contains gs g → (n : ℕ) × Is g.file n × Contains hs (fragment_to n g)
  pub fragment_back : (h : FragmentOf) → Contains hs h → (n : ℕ) × Is n h.file × Contains gs (fragment_to n h)
  pub ascends : (a b m n : ℕ) → Is a m → Is b n → a < b → m < n
  pub is_one : (a m n : ℕ) → Is a m → Is a n → m ≡ n

-- some fault of that code
abbrev pub HasOfCode : (Fault → Type 0) → Code → Type 0
HasOfCode IsFault code = (g : Fault) × (g.code ≡ code) × IsFault g

-- What is told of the ones by a rule is told of the others by it, at some place.
abbrev pub TellsOfRenumbered : (ExecutableOf → Fault → Type 0) → Type 1
TellsOfRenumbered IsFault = (es : List EntryOf) (Is : ℕ → ℕ → Type 0) (os ps : List OperationOf) (gs hs : List FragmentOf) → AreRenumbered Is os ps gs hs →
    (f : Fault) → IsFault (made es os gs) f → HasOfCode (IsFault (made es ps hs)) f.code
