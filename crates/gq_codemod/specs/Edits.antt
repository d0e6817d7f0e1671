-- The edit of a rename as it is printed, and the files that it leaves.
use Rattle.std.specs.Prelude.{ℕ, ◌+◌, List, ◌++◌, codes, decimal, option_map}
use Rattle.std.specs.List.{flat_map, filter_map}
use Rattle.gq_text.specs.declared.place.Position.{Position}
use Rattle.gq_project.specs.declared.document.Doc.{Doc}
use Rattle.gq_edit.specs.declared.edit.DocumentEdit.{DocumentEdit}
use Rattle.gq_edit.specs.declared.workspace.TextEdit.{TextEdit}
use Rattle.gq_edit.specs.declared.workspace.TextDocumentEdit.{TextDocumentEdit}
use Rattle.gq_edit.specs.declared.workspace.WorkspaceEdit.{WorkspaceEdit}
use Rattle.gq_edit.specs.Edits.{document_of, edited_text}
use Rattle.gq_codemod.specs.declared.edits.EditedFile.{EditedFile}

-- a line and a column, counted from 1
abbrev pub place_of : Position → List ℕ
place_of position = decimal (position.line + 1) ++ codes ":" ++ decimal (position.character + 1)

-- the line of an edit: the file, what is replaced, and what comes in its place
abbrev pub edit_line : List ℕ → TextEdit → List ℕ
edit_line name edit = name ++ codes ":" ++ place_of edit.range.start ++ codes "-" ++ place_of edit.range.end ++ codes ": " ++ edit.new_text ++ codes "\n"

abbrev pub document_lines : TextDocumentEdit → List ℕ
document_lines changes = flat_map (edit_line changes.uri) changes.edits

abbrev pub edit_lines : WorkspaceEdit → List ℕ
edit_lines edit = flat_map document_lines edit.document_changes

-- a file after its edit
abbrev pub edited_file : DocumentEdit → Doc → EditedFile
edited_file edit document = record { name = document.key; text = edited_text edit document }

-- the files that are edited, in order
abbrev pub edited_files : List Doc → List DocumentEdit → List EditedFile
edited_files documents edits = filter_map (λ edit. option_map (edited_file edit) (document_of documents edit)) edits
