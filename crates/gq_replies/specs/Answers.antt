-- The response to a question about documents (LSP 3.17, "Language Features"). A relation, since want of memory may refuse
-- any question.
use Rattle.std.specs.Prelude.{◌≡◌, ◌⊎◌, ℕ, List, [], map, find, slice_range, Option, option_map}
use Rattle.std.specs.Option.{option_map_or}
use Rattle.gq_text.specs.Place.{off}
use Rattle.gq_text.specs.declared.place.Position.{Position}
use Rattle.gq_text.specs.declared.place.PositionEncoding.{PositionEncoding}
use Rattle.gq_text.specs.declared.place.Span.{Span}
use Rattle.gq_text.specs.declared.text.Range.{Range}
use Rattle.gq_project.specs.declared.document.Doc.{Doc}
use Rattle.gq_project.specs.Documents.{has_key}
use Rattle.gq_index.specs.declared.occurrence.Occurrence.{Occurrence}
use Rattle.gq_query.specs.declared.told.Hover as query
use Rattle.gq_query.specs.Hovers.{IsHover}
use Rattle.gq_query.specs.Definitions.{AreDefinitions}
use Rattle.gq_query.specs.References.{AreReferences}
use Rattle.gq_completion.specs.declared.completion.Completion.{Completion}
use Rattle.gq_completion.specs.declared.completion.CompletionKind.{CompletionKind}
use Rattle.gq_completion.specs.declared.completion.CompletionKind.TheVariants as completion
use Rattle.gq_completion.specs.Completions.{AreCompletions}
use Rattle.gq_rename.specs.declared.refusal.Refusal.TheVariants.{NoMemory}
use Rattle.gq_rename.specs.Prepare.{IsPrepared}
use Rattle.gq_rpc.specs.declared.messages.Id.{Id}
use Rattle.gq_rpc.specs.declared.messages.Hover.{Hover}
use Rattle.gq_rpc.specs.declared.messages.CompletionItem.{CompletionItem}
use Rattle.gq_rpc.specs.declared.messages.CompletionItemKind.{CompletionItemKind}
use Rattle.gq_rpc.specs.declared.messages.CompletionItemKind.TheVariants as item
use Rattle.gq_rpc.specs.declared.messages.PrepareRename.{PrepareRename}
use Rattle.gq_rpc.specs.declared.messages.TextDocumentPositionParams.{TextDocumentPositionParams}
use Rattle.gq_rpc.specs.declared.messages.ReferenceParams.{ReferenceParams}
use Rattle.gq_rpc.specs.declared.messages.Question.{Question}
use Rattle.gq_rpc.specs.declared.messages.Question.TheVariants as question
use Rattle.gq_rpc.specs.declared.messages.Outgoing.{Outgoing}
use Rattle.gq_rpc.specs.declared.messages.Outgoing.TheVariants as outgoing
use Rattle.gq_replies.specs.Ranges.{range_of}
use Rattle.gq_replies.specs.Locations.{locations_of}
use Rattle.gq_replies.specs.Renames.{refused, TellsRename}
use Rattle.gq_replies.specs.CodeActions.{span_between, TellsCodeActions}
pub use Rattle.gq_replies.specs.Notifications.{AreDiagnosticsMessages}

-- the text of the document of that key; where there is none, no text
abbrev pub text_at : List Doc → List ℕ → List ℕ
text_at documents key = option_map_or (λ document. document.text) (find (has_key key) documents) []

-- the offset of a position in the document of that key, in bytes
abbrev pub offset_at : PositionEncoding → List Doc → List ℕ → Position → ℕ
offset_at encoding documents key position = off encoding (text_at documents key) position

-- the span of a range
abbrev pub span_at : PositionEncoding → List Doc → List ℕ → Range → Span
span_at encoding documents key range = span_between (offset_at encoding documents key range.start) (offset_at encoding documents key range.end)

-- ---- hovers

-- what is shown, and for which range of the text
abbrev pub hover_in : PositionEncoding → List ℕ → query.Hover → Hover
hover_in encoding text found = record { value = found.value; range = range_of encoding text found.span }

-- the response tells what is shown at the position, or that nothing is
pub record TellsHover (encoding : PositionEncoding) (documents : List Doc) (id : Id) (params : TextDocumentPositionParams) (response : Outgoing) : Type 0 where
  pub found : Option query.Hover
  pub is_found : IsHover documents params.key (offset_at encoding documents params.key params.position) found
  pub is : response ≡ outgoing.Hover id (option_map (hover_in encoding (text_at documents params.key)) found)

-- ---- definitions and references

-- the response tells the definitions of what stands at the position
pub record TellsDefinitions (encoding : PositionEncoding) (documents : List Doc) (id : Id) (params : TextDocumentPositionParams) (response : Outgoing) : Type 0 where
  pub found : List Occurrence
  pub are_found : AreDefinitions documents params.key (offset_at encoding documents params.key params.position) found
  pub is : response ≡ outgoing.Locations id (locations_of encoding documents found)

-- the response tells the references to what stands at the position
pub record TellsReferences (encoding : PositionEncoding) (documents : List Doc) (id : Id) (params : ReferenceParams) (response : Outgoing) : Type 0 where
  pub found : List Occurrence
  pub are_found : AreReferences documents params.key (offset_at encoding documents params.key params.position) params.include_declaration found
  pub is : response ≡ outgoing.Locations id (locations_of encoding documents found)

-- ---- completions

-- the kind of an item (LSP 3.17, "CompletionItemKind")
abbrev pub item_kind : CompletionKind → CompletionItemKind
item_kind completion.Field = item.Field
item_kind completion.Variable = item.Variable
item_kind completion.Fragment = item.Reference

abbrev pub item_of : Completion → CompletionItem
item_of found = record { kind = item_kind found.kind; label = found.label }

-- the response tells what may be written at the position
pub record TellsCompletions (encoding : PositionEncoding) (documents : List Doc) (id : Id) (params : TextDocumentPositionParams) (response : Outgoing) : Type 0 where
  pub found : List Completion
  pub are_found : AreCompletions documents params.key (offset_at encoding documents params.key params.position) found
  pub is : response ≡ outgoing.Completions id (map item_of found)

-- ---- what a rename would be of

-- the text of the span, and its range
abbrev pub prepared_in : PositionEncoding → List ℕ → Span → PrepareRename
prepared_in encoding text span = record { placeholder = slice_range text span.start span.end; range = range_of encoding text span }

-- the response tells the name that a rename at the position would change, or that there is none
pub record TellsPrepared (encoding : PositionEncoding) (documents : List Doc) (id : Id) (params : TextDocumentPositionParams) (response : Outgoing) : Type 0 where
  pub found : Option Span
  pub is_found : IsPrepared documents params.key (offset_at encoding documents params.key params.position) found
  pub is : response ≡ outgoing.Prepared id (option_map (prepared_in encoding (text_at documents params.key)) found)

-- ---- all questions

-- the response tells what is defined
abbrev pub IsDefinedAnswer : PositionEncoding → List Doc → Id → Question → Outgoing → Type 0
IsDefinedAnswer encoding documents id (question.Completion params) response = TellsCompletions encoding documents id params response
IsDefinedAnswer encoding documents id (question.Definition params) response = TellsDefinitions encoding documents id params response
IsDefinedAnswer encoding documents id (question.Hover params) response = TellsHover encoding documents id params response
IsDefinedAnswer encoding documents id (question.PrepareRename params) response = TellsPrepared encoding documents id params response
IsDefinedAnswer encoding documents id (question.References params) response = TellsReferences encoding documents id params response
IsDefinedAnswer encoding documents id (question.Rename params) response = TellsRename encoding documents id params (offset_at encoding documents params.key params.position) response
IsDefinedAnswer encoding documents id (question.CodeAction params) response = TellsCodeActions encoding documents id params (span_at encoding documents params.key params.range) response

-- it tells that, or that memory was refused
abbrev pub IsAnswer : PositionEncoding → List Doc → Id → Question → Outgoing → Type 0
IsAnswer encoding documents id asked response = (response ≡ refused id NoMemory) ⊎ IsDefinedAnswer encoding documents id asked response
