-- Edits of documents at stated versions, and projects after them.
use Rattle.std.specs.Prelude.{ℕ, ◌^◌, Bool, false, ◌&&◌, nat_lt, is_none, length, List, map, find, Option, option_map}
use Rattle.std.specs.Option.{option_map_or, option_or, option_eq, ForSome}
use Rattle.std.specs.Str.{bytes_eq}
use Rattle.std.specs.Cmp.Lexicographic.{slice_cmp}
use Rattle.std.specs.List.{AllByRecursion}
use Rattle.std.specs.List.Sorted.{IsStrictlySortedBy}
use Rattle.std.specs.Ordering.{nat_cmp, int_eq}
use Rattle.gq_text.specs.Replaced.{replaced}
use Rattle.gq_project.specs.declared.document.Doc.{Doc}
use Rattle.gq_edit.specs.declared.edit.DocumentEdit.{DocumentEdit}
use Rattle.gq_edit.specs.declared.edit.EditFault.{EditFault}
use Rattle.gq_edit.specs.declared.edit.EditFault.TheVariants.{Moved, TooLarge}
use Rattle.gq_edit.specs.Replacements.{FitText}

-- the keys ascend by their bytes, so no document is edited twice
abbrev pub AreInOrder : List DocumentEdit → Type 0
AreInOrder edits = IsStrictlySortedBy (λ a b. slice_cmp nat_cmp a.key b.key) edits

-- the edit is of this document: it states its key and its version, or none where the document has none
abbrev pub is_of : Doc → DocumentEdit → Bool
is_of doc edit = bytes_eq doc.key edit.key && option_eq int_eq doc.version edit.version

-- the document that is edited, if it is there at that version
abbrev pub document_of : List Doc → DocumentEdit → Option Doc
document_of docs edit = find (λ doc. is_of doc edit) docs

-- the text of a document after its edit
abbrev pub edited_text : DocumentEdit → Doc → List ℕ
edited_text edit doc = replaced edit.replacements doc.text

-- a document after the edits: its text is edited where an edit is of it, and all else stays
abbrev pub edited : List DocumentEdit → Doc → Doc
edited edits doc = option_map_or (λ edit. record doc { text = edited_text edit doc }) (find (is_of doc) edits) doc

-- the project after the edits
abbrev pub after_edit : List DocumentEdit → List Doc → List Doc
after_edit edits docs = map (edited edits) docs

-- the document is not there at that version
abbrev pub is_moved : List Doc → DocumentEdit → Bool
is_moved docs edit = is_none (document_of docs edit)

-- its text would have more than 4 MiB
abbrev pub is_too_large : List Doc → DocumentEdit → Bool
is_too_large docs edit = option_map_or (λ doc. nat_lt (2 ^ 22) (length (edited_text edit doc))) (document_of docs edit) false

-- why the edits cannot be applied, if they cannot: the first that is moved, and where none is the first that is too large
abbrev pub fault_of : List Doc → List DocumentEdit → Option EditFault
fault_of docs edits =
    option_or (option_map (λ edit. Moved edit.key edit.version) (find (is_moved docs) edits)) (option_map (λ edit. TooLarge edit.key) (find (is_too_large docs) edits))

-- the spans of each edit fit the text of its document, where that is there
abbrev pub FitDocuments : List Doc → List DocumentEdit → Type 0
FitDocuments docs edits = AllByRecursion (λ edit. ForSome (document_of docs edit) (λ doc. FitText doc.text edit.replacements)) edits
