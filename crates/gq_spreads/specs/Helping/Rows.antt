-- The texts of fragments' names, and tables of numbers as lists.
use Rattle.std.specs.Prelude.{ℕ, List, map}
use Rattle.std.specs.declared.vec.Vec.{Vec}
use Rattle.std.specs.declared.alloc.Global.{Global}
use Rattle.gq_types.specs.Entries.{Text}
use Rattle.gq_document.specs.Definitions.{FragmentOf}

-- the texts of fragments' names
abbrev pub texts : List FragmentOf → List Text
texts fs = map (λ f. f.name.text) fs

-- a table as lists
abbrev pub row_items : List (Vec ℕ Global) → List (List ℕ)
row_items rows = map (λ v. v.items) rows
