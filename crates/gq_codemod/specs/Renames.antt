-- The rename of what is at a place of files: what it comes to, what is printed, and which files are edited.
use Rattle.std.specs.Prelude.{◌≡◌, ℕ, List, [], ◌++◌, None, Ok, Err, codes}
use Rattle.gq_text.specs.Place.{off}
use Rattle.gq_text.specs.declared.place.Position.{Position}
use Rattle.gq_text.specs.declared.place.PositionEncoding.TheVariants.{Utf16}
use Rattle.gq_project.specs.declared.document.Doc.{Doc}
use Rattle.gq_edit.specs.declared.edit.DocumentEdit.{DocumentEdit}
use Rattle.gq_edit.specs.Edits.{after_edit}
use Rattle.gq_edit.specs.Workspace.{workspace_edit_of}
use Rattle.gq_fault.specs.declared.found.Found.{Found}
use Rattle.gq_rules.specs.Validity.{IsReportOf, IsValid, IsInvalid}
use Rattle.gq_rename.specs.declared.refusal.Refusal.{Refusal}
use Rattle.gq_rename.specs.declared.refusal.Refusal.TheVariants.{ProjectInvalid}
use Rattle.gq_rename.specs.Refusals.{message_of}
use Rattle.gq_rename.specs.Rename.{IsRenameAnswer}
use Rattle.gq_rename.specs.Responses.{KeepsResponses}
use Rattle.gq_check.specs.declared.files.File.{File}
use Rattle.gq_check.specs.declared.formats.Format.TheVariants as format
use Rattle.gq_check.specs.Files.{files_fault, documents_of}
use Rattle.gq_check.specs.Formats.{printed_all}
use Rattle.gq_check.specs.Lines.{text_at}
use Rattle.gq_codemod.specs.declared.edits.EditedFile.{EditedFile}
use Rattle.gq_codemod.specs.declared.renaming.Renaming.{Renaming}
use Rattle.gq_codemod.specs.Edits.{edit_lines, edited_files}

-- where the rename is asked for: the file, and the offset of the position in it, in UTF-16 code units (LSP 3.17, "Position")
abbrev pub offset_at : List Doc → List ℕ → Position → ℕ
offset_at documents key position = off Utf16 (text_at documents key) position

-- The edit of the rename in a valid project: the exact one. The project stays valid, and every operation has the same
-- responses.
pub record IsRenamed (documents : List Doc) (key : List ℕ) (offset : ℕ) (new : List ℕ) (edits : List DocumentEdit) : Type 0 where
  pub valid : ∥ IsValid documents ∥₁
  pub exact : IsRenameAnswer documents key offset new (Ok edits)
  pub stays_valid : ∥ IsValid (after_edit edits documents) ∥₁
  pub responses : KeepsResponses documents key offset new edits

-- what a rename comes to: the project is not valid, or the rename is refused, or it has an edit
pub data RenameOutcome : Type 0 where
  invalid : List Found → RenameOutcome
  denied : Refusal → RenameOutcome
  renamed : List DocumentEdit → RenameOutcome

abbrev pub IsRenameOutcome : List Doc → List ℕ → ℕ → List ℕ → RenameOutcome → Type 0
IsRenameOutcome documents key offset new (invalid found) = IsInvalid documents × IsReportOf documents found
IsRenameOutcome documents key offset new (denied refusal) = ∥ IsValid documents ∥₁ × IsRenameAnswer documents key offset new (Err refusal)
IsRenameOutcome documents key offset new (renamed edits) = IsRenamed documents key offset new edits

-- the line of a refusal
abbrev pub refusal_line : Refusal → List ℕ
refusal_line refusal = codes "gqls: " ++ message_of refusal ++ codes "\n"

-- what is printed on standard output and on standard error, the status, and the edited files
abbrev pub rename_output : List Doc → RenameOutcome → List ℕ
rename_output documents (invalid found) = printed_all format.Text documents found
rename_output documents (denied refusal) = []
rename_output documents (renamed edits) = edit_lines (workspace_edit_of Utf16 documents edits)

abbrev pub rename_error : RenameOutcome → List ℕ
rename_error (invalid found) = refusal_line ProjectInvalid
rename_error (denied refusal) = refusal_line refusal
rename_error (renamed edits) = []

abbrev pub rename_status : RenameOutcome → ℕ
rename_status (invalid found) = 1
rename_status (denied refusal) = 1
rename_status (renamed edits) = 0

abbrev pub rename_files : List Doc → RenameOutcome → List EditedFile
rename_files documents (invalid found) = []
rename_files documents (denied refusal) = []
rename_files documents (renamed edits) = edited_files documents edits

-- it comes to that in documents
pub record IsRenamingOf (documents : List Doc) (key : List ℕ) (position : Position) (new : List ℕ) (renaming : Renaming) : Type 0 where
  pub outcome : RenameOutcome
  pub is_outcome : IsRenameOutcome documents key (offset_at documents key position) new outcome
  pub output : renaming.output.items ≡ rename_output documents outcome
  pub error : renaming.error.items ≡ rename_error outcome
  pub status : renaming.status ≡ rename_status outcome
  pub edited : renaming.edited.items ≡ rename_files documents outcome

-- it comes to that in files with which nothing is wrong
pub record IsRenaming (files : List File) (key : List ℕ) (position : Position) (new : List ℕ) (renaming : Renaming) : Type 0 where
  pub fine : files_fault files ≡ None
  pub of_documents : IsRenamingOf (documents_of files) key position new renaming
