-- The answers to refactorings that are asked for: renames, extract, inline and remove; and what their edits keep.
use Rattle.std.specs.Prelude.{List, Result}
use Rattle.gq_project.specs.declared.document.Doc.{Doc}
use Rattle.gq_edit.specs.declared.edit.DocumentEdit.{DocumentEdit}
use Rattle.gq_rename.specs.declared.refusal.Refusal.{Refusal}
use Rattle.gq_rename.specs.Rename.{IsRenameAnswer}
use Rattle.gq_rename.specs.Responses as renames
use Rattle.gq_reshape.specs.declared.offering.Ask.{Ask}
use Rattle.gq_reshape.specs.declared.offering.Ask.TheVariants.{Rename, Extract, Inline, Remove}
use Rattle.gq_reshape.specs.Reshape.{IsExtractAnswer, IsInlineAnswer, IsRemoveAnswer}
use Rattle.gq_reshape.specs.Responses.{KeepsResponses}

abbrev pub IsOfferedFor : List Doc → Ask → Result (List DocumentEdit) Refusal → Type 0
IsOfferedFor documents (Rename key offset new_name) result = IsRenameAnswer documents key.now offset new_name.now result
IsOfferedFor documents (Extract key range) result = IsExtractAnswer documents (record { key = key.now; range = range }) result
IsOfferedFor documents (Inline key range) result = IsInlineAnswer documents (record { key = key.now; range = range }) result
IsOfferedFor documents (Remove key range) result = IsRemoveAnswer documents (record { key = key.now; range = range }) result

-- Every operation keeps its responses, for a rename of a variable with values that are renamed alike.
abbrev pub KeepsResponsesFor : List Doc → Ask → List DocumentEdit → Type 0
KeepsResponsesFor documents (Rename key offset new_name) edits = renames.KeepsResponses documents key.now offset new_name.now edits
KeepsResponsesFor documents (Extract key range) edits = KeepsResponses documents edits
KeepsResponsesFor documents (Inline key range) edits = KeepsResponses documents edits
KeepsResponsesFor documents (Remove key range) edits = KeepsResponses documents edits
