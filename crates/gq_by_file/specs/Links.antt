-- Which files the spreads of a file lead to.
use Rattle.std.specs.Prelude.{ℕ, ◌<◌, List, Contains, length}
use Rattle.std.specs.declared.vec.Vec.{Vec}
use Rattle.std.specs.declared.alloc.Global.{Global}
use Rattle.gq_graph.specs.Reach.{row}
use Rattle.gq_document.specs.Definitions.{OperationOf, FragmentOf}
use Rattle.gq_document.specs.Executable.{ExecutableOf}
use Rattle.gq_document.specs.Reaches.{IsSpreadIn}
use Rattle.gq_by_file.specs.Closed.Closed.{StandsInFile}

-- The rows lead from each file to the files with fragments that are spread in it.
pub record AreLinks (x : ExecutableOf) (rows : List (Vec ℕ Global)) : Type 0 where
  pub in_range : (n : ℕ) → StandsInFile x n → n < length rows
  pub of_operations : (o : OperationOf) → Contains x.operations o → (f : FragmentOf) → Contains x.fragments f → IsSpreadIn o.set f → Contains (row rows o.file) f.file
  pub of_fragments : (g : FragmentOf) → Contains x.fragments g → (f : FragmentOf) → Contains x.fragments f → IsSpreadIn g.set f → Contains (row rows g.file) f.file
