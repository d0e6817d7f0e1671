-- A refactoring's edit and trees, and what is wrong with them.
use Rattle.std.specs.Prelude.{◌≡◌, List, map}
use Rattle.gq_text.specs.declared.place.Span.{Span}
use Rattle.gq_tree.specs.Plain.{Def, erase_document}
use Rattle.gq_project.specs.declared.document.Doc.{Doc}
use Rattle.gq_edit.specs.declared.edit.DocumentEdit.{DocumentEdit}
use Rattle.gq_edit.specs.Edits.{after_edit}
use Rattle.gq_renamed.specs.Projects.{AreTrees}
use Rattle.gq_rules.specs.Validity.{IsValid}
use Rattle.gq_rewritten.specs.Rewrites.{Rewrite, rewritten_from}
use Rattle.gq_reshape.specs.Placed.{edits_from}
use Rattle.gq_reshape.specs.declared.placed.PlacedReplacement.{PlacedReplacement}

-- the replacements, in the order of documents and places, and the change of the trees
pub record Cut : Type 0 where
  pub replacements : List PlacedReplacement
  pub rewrite : Rewrite

-- the edit
abbrev pub edits_of : Cut → List Doc → List DocumentEdit
edits_of cut documents = edits_from cut.replacements 0 documents

-- the edited texts read as the rewritten trees, places forgotten
pub record ReadsAsRewritten (documents : List Doc) (trees : List (List (Def Span))) (cut : Cut) : Type 0 where
  pub after : List (List (Def Span))
  pub are_trees : AreTrees (after_edit (edits_of cut documents) documents) after
  pub rewritten : map erase_document after ≡ rewritten_from cut.rewrite 0 trees

-- they do, and the edited project is valid
abbrev pub PassesCheck : List Doc → List (List (Def Span)) → Cut → Type 0
PassesCheck documents trees cut = ReadsAsRewritten documents trees cut × ∥ IsValid (after_edit (edits_of cut documents) documents) ∥₁
