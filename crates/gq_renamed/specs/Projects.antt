-- The rename of names in all documents of a project: the edit, and the trees.
use Rattle.std.specs.Prelude.{◌≡◌, ℕ, List, [], ◌∷◌, ◌++◌, map}
use Rattle.std.specs.List.{AllByRecursion}
use Rattle.std.specs.Str.{IsUtf8}
use Rattle.gq_text.specs.declared.place.Span.{Span}
use Rattle.gq_text.specs.declared.replacement.Replacement.{Replacement}
use Rattle.gq_lex.specs.declared.token.Kind.TheVariants as kind
use Rattle.gq_lex.specs.Tokens.{IsToken}
use Rattle.gq_tree.specs.Plain.{Def, erase_document}
use Rattle.gq_project.specs.declared.document.Doc.{Doc}
use Rattle.gq_project.specs.Documents.{IsInOrder}
use Rattle.gq_parse.specs.Derives.{Derives}
use Rattle.gq_edit.specs.declared.edit.DocumentEdit.{DocumentEdit}
use Rattle.gq_edit.specs.Replacements.{AreDisjoint}
use Rattle.gq_edit.specs.Edits.{AreInOrder, FitDocuments, after_edit}
use Rattle.gq_renamed.specs.Renamings.{Renaming, MayName}
use Rattle.gq_renamed.specs.Renamed.{next_number, rename_document}
use Rattle.gq_renamed.specs.Rewritten.{rename_replacements}

-- the trees of documents, one for each
pub data AreTrees : List Doc → List (List (Def Span)) → Type 0 where
  none : AreTrees [] []
  more : {document : Doc} {documents : List Doc} {tree : List (Def Span)} {trees : List (List (Def Span))} → Derives document.text tree → AreTrees documents trees → AreTrees (document ∷ documents) (tree ∷ trees)

-- the number of the next executable definition, behind a document
abbrev pub number_behind : {P : Type 0} → List (Def P) → ℕ → ℕ
number_behind [] k = k
number_behind (d ∷ ds) k = number_behind ds (next_number d k)

-- the edit of a document at its version, if there is something to replace
abbrev pub edit_if_any : Doc → List Replacement → List DocumentEdit
edit_if_any document [] = []
edit_if_any document (r ∷ rs) = record { key = document.key; version = document.version; replacements = r ∷ rs } ∷ []

-- The edit of a rename: of each document in which a name is changed, in their order. The executable definitions are numbered through all documents.
abbrev pub rename_edits : (ℕ → Renaming) → ℕ → List ℕ → List Doc → List (List (Def Span)) → List DocumentEdit
rename_edits rule k new [] trees = []
rename_edits rule k new (document ∷ documents) [] = []
rename_edits rule k new (document ∷ documents) (tree ∷ trees) = edit_if_any document (rename_replacements rule k new tree) ++ rename_edits rule (number_behind tree k) new documents trees

-- the trees with the names changed
abbrev pub rename_trees : {P : Type 0} → (ℕ → Renaming) → ℕ → List ℕ → List (List (Def P)) → List (List (Def P))
rename_trees rule k new [] = []
rename_trees rule k new (tree ∷ trees) = rename_document rule k new tree ∷ rename_trees rule (number_behind tree k) new trees

-- What is true of that edit: it can be made in these documents, and afterwards each of them has the tree that it had, places forgotten, with the names changed.
pub record RewritesProject (rule : ℕ → Renaming) (new : List ℕ) (documents : List Doc) (trees : List (List (Def Span))) : Type 0 where
  pub in_order : AreInOrder (rename_edits rule 0 new documents trees)
  pub disjoint : AllByRecursion (λ edit. AreDisjoint edit.replacements) (rename_edits rule 0 new documents trees)
  pub fit : AllByRecursion (λ document. IsUtf8 document.text) documents → FitDocuments documents (rename_edits rule 0 new documents trees)
  pub after : List (List (Def Span))
  pub are_trees : AreTrees (after_edit (rename_edits rule 0 new documents trees) documents) after
  pub renamed : map erase_document after ≡ rename_trees rule 0 new (map erase_document trees)

-- For all documents with trees and every rule, where the new text is a Name (section 2.1.9) that may stand at each name that it replaces.
abbrev pub RenamedProjectsRead : Type 0
RenamedProjectsRead =
    (rule : ℕ → Renaming) (new : List ℕ) (documents : List Doc) (trees : List (List (Def Span))) → IsInOrder documents → AreTrees documents trees → IsToken kind.Name new [] → ((n : ℕ) → MayName (rule n) new) →
    RewritesProject rule new documents trees
