-- Replacements in documents, and the edit that makes them.
use Rattle.std.specs.Prelude.{ℕ, suc, List, [], ◌∷◌, ◌++◌, map, filter, nat_eq}
use Rattle.gq_text.specs.declared.replacement.Replacement.{Replacement}
use Rattle.gq_project.specs.declared.document.Doc.{Doc}
use Rattle.gq_edit.specs.declared.edit.DocumentEdit.{DocumentEdit}
use Rattle.gq_renamed.specs.Projects.{edit_if_any}
use Rattle.gq_reshape.specs.declared.placed.PlacedReplacement.{PlacedReplacement}

-- the replacements in the document of that number, in order
abbrev pub replacements_in : List PlacedReplacement → ℕ → List Replacement
replacements_in placed file = map (λ p. p.replacement) (filter (λ p. nat_eq p.file file) placed)

-- the edit of each document in which something is replaced, at its version; the first document has the number file
abbrev pub edits_from : List PlacedReplacement → ℕ → List Doc → List DocumentEdit
edits_from placed file [] = []
edits_from placed file (document ∷ documents) = edit_if_any document (replacements_in placed file) ++ edits_from placed (suc file) documents
