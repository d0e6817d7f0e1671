-- Covers of files, as they are made.
use Rattle.std.specs.Prelude.{◌≡◌, ◌+◌, ℕ, Bool, true, false, List, [], ◌∷◌, Contains, slice_index_or}
use Rattle.std.specs.List.{list_any}
use Rattle.std.specs.Str.{bytes_eq}
use Rattle.std.specs.declared.vec.Vec.{Vec}
use Rattle.std.specs.declared.alloc.Global.{Global}
use Rattle.gq_graph.specs.Reach.{Reach, row}
use Rattle.gq_fault.specs.declared.fault.Fault.{Fault}
use Rattle.gq_types.specs.Entries.{Text}
use Rattle.gq_document.specs.Executable.{ExecutableOf}
use Rattle.gq_by_file.specs.Closed.Closed.{within, StandsInFile}
use Rattle.gq_by_file.specs.Closed.RestsOnNames.{IsFaultBySpreads}
use Rattle.gq_by_file.specs.declared.covers.Cover.{Cover}

-- the file stands in one of the covers
abbrev pub IsCovered : List Cover → ℕ → Type 0
IsCovered covers n = (c : Cover) × Contains covers c × Contains c.files.items n

-- the places without a mark, the first of which has the given number
abbrev pub unmarked_from : ℕ → List Bool → List ℕ
unmarked_from k [] = []
unmarked_from k (true ∷ marks) = unmarked_from (k + 1) marks
unmarked_from k (false ∷ marks) = k ∷ unmarked_from (k + 1) marks

-- each fault of those files stands in a marked one
abbrev pub AreFaulty : ExecutableOf → List ℕ → List Bool → Type 0
AreFaulty x files marks = (f : Fault) → IsFaultBySpreads (within files x) f → slice_index_or marks f.file false ≡ true

-- all that the starts lead to is among those
abbrev pub LeadsInto : List (Vec ℕ Global) → List ℕ → List ℕ → Type 0
LeadsInto rows starts all = (n : ℕ) → Reach starts (row rows) n → Contains all n

-- A part of some operations and fragments has all of these that stand in files to which the starts lead, and stands in no file in which the whole has
-- nothing.
pub record HoldsAll (x part : ExecutableOf) (rows : List (Vec ℕ Global)) (starts : List ℕ) : Type 0 where
  pub same : (files : List ℕ) → ((n : ℕ) → Contains files n → Reach starts (row rows) n) → within files part ≡ within files x
  pub inside : (n : ℕ) → StandsInFile part n → StandsInFile x n

-- one of the second texts is one of the first
abbrev pub has_one_of : List Text → List Text → Bool
has_one_of defined texts = list_any (λ text. list_any (bytes_eq text) defined) texts
