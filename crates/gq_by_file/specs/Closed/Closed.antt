-- Sets of files, by their numbers, and those that no spread leads out of.
use Rattle.std.specs.Prelude.{◌≡◌, ℕ, Bool, List, Contains, filter, nat_eq}
use Rattle.std.specs.List.{list_any}
use Rattle.gq_document.specs.Definitions.{OperationOf, FragmentOf}
use Rattle.gq_document.specs.Executable.{ExecutableOf}
use Rattle.gq_document.specs.Reaches.{IsSpreadIn}

abbrev pub is_among : List ℕ → ℕ → Bool
is_among files n = list_any (nat_eq n) files

-- the operations and fragments of those files alone
abbrev pub within : List ℕ → ExecutableOf → ExecutableOf
within files x = record {
  entries = x.entries;
  operations = filter (λ (o : OperationOf). is_among files o.file) x.operations;
  fragments = filter (λ (f : FragmentOf). is_among files f.file) x.fragments;
}

-- each fragment that is spread in one of the files stands in one of them
pub record IsClosed (files : List ℕ) (x : ExecutableOf) : Type 0 where
  pub of_operations : (o : OperationOf) → Contains x.operations o → Contains files o.file → (f : FragmentOf) → Contains x.fragments f → IsSpreadIn o.set f → Contains files f.file
  pub of_fragments : (g : FragmentOf) → Contains x.fragments g → Contains files g.file → (f : FragmentOf) → Contains x.fragments f → IsSpreadIn g.set f → Contains files f.file

-- an operation or a fragment stands in the file of that number
pub data StandsInFile (x : ExecutableOf) (n : ℕ) : Type 0 where
  of_operation : {o : OperationOf} → Contains x.operations o → n ≡ o.file → StandsInFile x n
  of_fragment : {f : FragmentOf} → Contains x.fragments f → n ≡ f.file → StandsInFile x n
