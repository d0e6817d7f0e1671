-- Edits with positions, as the language server protocol writes them.
use Rattle.std.specs.Prelude.{ℕ, ◌≤◌, ◌^◌, length, List, map, option_map}
use Rattle.std.specs.List.{AllByRecursion, filter_map}
use Rattle.gq_text.specs.Place.{pos}
use Rattle.gq_text.specs.declared.place.PositionEncoding.{PositionEncoding}
use Rattle.gq_text.specs.declared.replacement.Replacement.{Replacement}
use Rattle.gq_project.specs.declared.document.Doc.{Doc}
use Rattle.gq_edit.specs.declared.edit.DocumentEdit.{DocumentEdit}
use Rattle.gq_edit.specs.declared.workspace.TextEdit.{TextEdit}
use Rattle.gq_edit.specs.declared.workspace.TextDocumentEdit.{TextDocumentEdit}
use Rattle.gq_edit.specs.declared.workspace.WorkspaceEdit.{WorkspaceEdit}
use Rattle.gq_edit.specs.Edits.{document_of}

-- each document has a text of at most 4 MiB
abbrev pub AreTexts : List Doc → Type 0
AreTexts docs = AllByRecursion (λ doc. length doc.text ≤ 2 ^ 22) docs

-- a replacement, with the positions of both ends of its span in the text
abbrev pub text_edit_of : PositionEncoding → List ℕ → Replacement → TextEdit
text_edit_of encoding text r = record { range = record { start = pos encoding text r.span.start; end = pos encoding text r.span.end }; new_text = r.text }

-- the edits of a document, under its URI and version
abbrev pub document_edit_of : PositionEncoding → DocumentEdit → Doc → TextDocumentEdit
document_edit_of encoding edit doc = record { uri = doc.uri; version = doc.version; edits = map (text_edit_of encoding doc.text) edit.replacements }

-- the edits of the documents that are there, in order
abbrev pub workspace_edit_of : PositionEncoding → List Doc → List DocumentEdit → WorkspaceEdit
workspace_edit_of encoding docs edits = record { document_changes = filter_map (λ edit. option_map (document_edit_of encoding edit) (document_of docs edit)) edits }
