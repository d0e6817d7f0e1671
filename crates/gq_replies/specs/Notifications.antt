-- The notifications that tell what is wrong with documents (LSP 3.17, "PublishDiagnostics Notification").
use Rattle.std.specs.Prelude.{◌≡◌, ℕ, List, [], ◌∷◌, map, flat_map, zip, is_some, if◌then◌else◌}
use Rattle.gq_text.specs.declared.place.PositionEncoding.{PositionEncoding}
use Rattle.gq_project.specs.declared.document.Doc.{Doc}
use Rattle.gq_fault.specs.Codes.{text_of}
use Rattle.gq_diagnostics.specs.Words.{words_of}
use Rattle.gq_fault.specs.declared.found.Found.{Found}
use Rattle.gq_diagnostics.specs.Diagnostics.{AreDiagnostics}
use Rattle.gq_rpc.specs.declared.messages.Diagnostic.{Diagnostic}
use Rattle.gq_rpc.specs.declared.messages.PublishDiagnosticsParams.{PublishDiagnosticsParams}
use Rattle.gq_rpc.specs.declared.messages.Outgoing.{Outgoing}
use Rattle.gq_rpc.specs.declared.messages.Outgoing.TheVariants as outgoing
use Rattle.gq_replies.specs.Ranges.{range_of}

-- what is wrong at a place of the text: the code, its words and the range
abbrev pub diagnostic_in : PositionEncoding → List ℕ → Found → Diagnostic
diagnostic_in encoding text found = record { code = text_of found.code; message = words_of found.code; range = range_of encoding text found.span }

-- all that is wrong with a document, under its URI and its version
abbrev pub diagnostics_in : PositionEncoding → Doc → List Found → PublishDiagnosticsParams
diagnostics_in encoding document found = record { uri = document.uri; version = document.version; diagnostics = map (diagnostic_in encoding document.text) found }

-- a document has a version where the client has it open, and of no other one is the client notified
abbrev pub notification_of : PositionEncoding → Doc → List Found → List Outgoing
notification_of encoding document found = if is_some document.version then outgoing.Diagnostics (diagnostics_in encoding document found) ∷ [] else []

-- a notification for each open document, in order
abbrev pub messages_of : PositionEncoding → List Doc → List (List Found) → List Outgoing
messages_of encoding documents all = flat_map (λ pair. notification_of encoding pair.0 pair.1) (zip documents all)

-- the notifications tell all that is wrong with the open documents
pub record AreDiagnosticsMessages (encoding : PositionEncoding) (documents : List Doc) (messages : List Outgoing) : Type 0 where
  pub found : List (List Found)
  pub are_found : AreDiagnostics documents found
  pub are : messages ≡ messages_of encoding documents found
