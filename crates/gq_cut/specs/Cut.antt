-- What the edits of renames rest on.
use Rattle.std.specs.Prelude.{ℕ, Bool, List, ◌==◌, if◌then◌else◌}
use Rattle.std.specs.List.{list_any}
use Rattle.gq_text.specs.declared.place.Span.{Span}
use Rattle.gq_tree.specs.Plain.{Def}
use Rattle.gq_project.specs.declared.document.Doc.{Doc}
use Rattle.gq_renamed.specs.Renamings.{Renaming, variable_called, nothing_renamed}
use Rattle.gq_renamed.specs.Projects.{AreTrees}

-- each of the documents has a tree
pub record HaveTrees (documents : List Doc) : Type 0 where
  pub trees : List (List (Def Span))
  pub are_trees : AreTrees documents trees

-- In the definitions of these numbers the variable of that name is renamed, and elsewhere nothing.
abbrev pub variable_in : List ℕ → List ℕ → ℕ → Renaming
variable_in group old n = if list_any (λ m. m == n) group then variable_called old else nothing_renamed
