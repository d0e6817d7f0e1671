-- What is to be answered about the documents, and which answers are right.
use Rattle.std.specs.Prelude.{ℕ, Bool, true, false, ◌&&◌, ◌==◌, List, [], ◌∷◌, Option, Some, None}
use Rattle.std.specs.Bool.{beq}
use Rattle.std.specs.Option.{option_eq}
use Rattle.std.specs.Ordering.{int_eq}
use Rattle.std.specs.Str.{bytes_eq}
use Rattle.gq_text.specs.declared.place.Position.{Position}
use Rattle.gq_text.specs.declared.place.PositionEncoding.{PositionEncoding}
use Rattle.gq_text.specs.declared.place.PositionEncoding.TheVariants.{Utf8, Utf16}
use Rattle.gq_project.specs.declared.document.Doc.{Doc}
use Rattle.gq_rpc.specs.declared.messages.Id.{Id}
use Rattle.gq_rpc.specs.declared.messages.Id.TheVariants as id
use Rattle.gq_rpc.specs.declared.messages.TextDocumentPositionParams.{TextDocumentPositionParams}
use Rattle.gq_rpc.specs.declared.messages.Question.{Question}
use Rattle.gq_rpc.specs.declared.messages.Question.TheVariants as question
use Rattle.gq_replies.specs.Answers.{IsAnswer, AreDiagnosticsMessages}
use Rattle.gq_events.specs.declared.event.Task.{Task}
use Rattle.gq_events.specs.declared.event.Task.TheVariants as task
use Rattle.gq_events.specs.declared.event.Answer.{Answer}
use Rattle.gq_events.specs.declared.event.Answer.TheVariants as answer

-- ---- which are the same

-- ids: a number and a text differ (JSON-RPC 2.0, section 4)
abbrev pub same_id : Id → Id → Bool
same_id (id.Number a) (id.Number b) = int_eq a b
same_id (id.Text a) (id.Text b) = bytes_eq a b
same_id (id.Number a) (id.Text b) = false
same_id (id.Text a) (id.Number b) = false

abbrev pub same_encoding : PositionEncoding → PositionEncoding → Bool
same_encoding Utf8 Utf8 = true
same_encoding Utf16 Utf16 = true
same_encoding Utf8 Utf16 = false
same_encoding Utf16 Utf8 = false

-- where a question is asked: the key of its document, and the position in it, or where the range starts
abbrev pub place_of : Question → TextDocumentPositionParams
place_of (question.Completion params) = params
place_of (question.Definition params) = params
place_of (question.Hover params) = params
place_of (question.PrepareRename params) = params
place_of (question.References params) = record { key = params.key; position = params.position }
place_of (question.Rename params) = record { key = params.key; position = params.position }
place_of (question.CodeAction params) = record { key = params.key; position = params.range.start }

-- the kinds of questions, numbered
abbrev pub kind_of : Question → ℕ
kind_of (question.Completion params) = 0
kind_of (question.Definition params) = 1
kind_of (question.Hover params) = 2
kind_of (question.PrepareRename params) = 3
kind_of (question.References params) = 4
kind_of (question.Rename params) = 5
kind_of (question.CodeAction params) = 6

-- what references say beside it
abbrev pub includes_declaration : Question → Bool
includes_declaration (question.References params) = params.include_declaration
includes_declaration (question.Completion params) = false
includes_declaration (question.Definition params) = false
includes_declaration (question.Hover params) = false
includes_declaration (question.PrepareRename params) = false
includes_declaration (question.Rename params) = false
includes_declaration (question.CodeAction params) = false

-- what a rename does
abbrev pub new_name_of : Question → List ℕ
new_name_of (question.Rename params) = params.new_name
new_name_of (question.Completion params) = []
new_name_of (question.Definition params) = []
new_name_of (question.Hover params) = []
new_name_of (question.PrepareRename params) = []
new_name_of (question.References params) = []
new_name_of (question.CodeAction params) = []

-- and where the range ends that code actions are asked for, and the kinds
abbrev pub end_of : Question → Position
end_of (question.CodeAction params) = params.range.end
end_of (question.Completion params) = record { line = 0; character = 0 }
end_of (question.Definition params) = record { line = 0; character = 0 }
end_of (question.Hover params) = record { line = 0; character = 0 }
end_of (question.PrepareRename params) = record { line = 0; character = 0 }
end_of (question.References params) = record { line = 0; character = 0 }
end_of (question.Rename params) = record { line = 0; character = 0 }

abbrev pub kinds_of : Question → Option (List (List ℕ))
kinds_of (question.CodeAction params) = params.only
kinds_of (question.Completion params) = None
kinds_of (question.Definition params) = None
kinds_of (question.Hover params) = None
kinds_of (question.PrepareRename params) = None
kinds_of (question.References params) = None
kinds_of (question.Rename params) = None

abbrev pub same_position : Position → Position → Bool
same_position a b = (a.line == b.line) && (a.character == b.character)

abbrev pub same_place : TextDocumentPositionParams → TextDocumentPositionParams → Bool
same_place a b = bytes_eq a.key b.key && same_position a.position b.position

abbrev pub same_texts : List (List ℕ) → List (List ℕ) → Bool
same_texts [] [] = true
same_texts (a ∷ as_) (b ∷ bs) = bytes_eq a b && same_texts as_ bs
same_texts [] (b ∷ bs) = false
same_texts (a ∷ as_) [] = false

abbrev pub same_kinds : Option (List (List ℕ)) → Option (List (List ℕ)) → Bool
same_kinds None None = true
same_kinds (Some a) (Some b) = same_texts a b
same_kinds None (Some b) = false
same_kinds (Some a) None = false

abbrev pub same_question : Question → Question → Bool
same_question a b =
    (kind_of a == kind_of b)
    && (same_place (place_of a) (place_of b)
    && (beq (includes_declaration a) (includes_declaration b)
    && (bytes_eq (new_name_of a) (new_name_of b)
    && (same_position (end_of a) (end_of b)
    && same_kinds (kinds_of a) (kinds_of b)))))

abbrev pub same_task : Task → Task → Bool
same_task (task.Ask e i a) (task.Ask f j b) = same_encoding e f && (same_id i j && same_question a b)
same_task (task.Check e) (task.Check f) = same_encoding e f
same_task (task.Ask e i a) (task.Check f) = false
same_task (task.Check e) (task.Ask f j b) = false

-- documents are the same in key, URI, version and text
abbrev pub same_doc : Doc → Doc → Bool
same_doc a b = bytes_eq a.key b.key && (bytes_eq a.uri b.uri && (option_eq int_eq a.version b.version && bytes_eq a.text b.text))

abbrev pub same_docs : List Doc → List Doc → Bool
same_docs [] [] = true
same_docs (a ∷ as_) (b ∷ bs) = same_doc a b && same_docs as_ bs
same_docs [] (b ∷ bs) = false
same_docs (a ∷ as_) [] = false

-- ---- the request that a task is for

abbrev pub id_of : Task → Option Id
id_of (task.Ask encoding i q) = Some i
id_of (task.Check encoding) = None

-- it is the request of that id
abbrev pub is_of : Id → Task → Bool
is_of i (task.Ask encoding j q) = same_id j i
is_of i (task.Check encoding) = false

abbrev pub is_ask : Task → Bool
is_ask (task.Ask encoding i q) = true
is_ask (task.Check encoding) = false

-- ---- which answers are right

-- an answer to a task about these documents: the defined one, that memory was refused, or of a check that another one comes
abbrev pub IsAnswerTo : List Doc → Task → Answer → Type 0
IsAnswerTo docs (task.Ask encoding i q) (answer.Response message) = IsAnswer encoding docs i q message
IsAnswerTo docs (task.Ask encoding i q) (answer.Report messages) = ⊥
IsAnswerTo docs (task.Ask encoding i q) answer.NoMemory = Unit {0}
IsAnswerTo docs (task.Ask encoding i q) answer.Superseded = ⊥
IsAnswerTo docs (task.Check encoding) (answer.Response message) = ⊥
IsAnswerTo docs (task.Check encoding) (answer.Report messages) = AreDiagnosticsMessages encoding docs messages
IsAnswerTo docs (task.Check encoding) answer.NoMemory = Unit {0}
IsAnswerTo docs (task.Check encoding) answer.Superseded = Unit {0}

abbrev pub Answers : List Doc → Task → Answer → Type 0
Answers docs t a = ∥ IsAnswerTo docs t a ∥₁

-- it says that another check comes, and nothing of the documents
abbrev pub is_superseded : Answer → Bool
is_superseded (answer.Response message) = false
is_superseded (answer.Report messages) = false
is_superseded answer.NoMemory = false
is_superseded answer.Superseded = true
