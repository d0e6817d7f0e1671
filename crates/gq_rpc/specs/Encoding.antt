-- Which JSON value a message to the client is, the members of objects in byte order of their names, and its frame.
use Rattle.std.specs.Prelude.{ℕ, ℤ, negsuc, Bool, true, List, map, codes, Option, Some, None, if◌then◌else◌}
use Rattle.serde_json.specs.Data.{Data, null, boolean, number, string, array, object, no_items, item, Members, no_members, member, unsigned}
use Rattle.serde_json.specs.Find.{of_integer}
use Rattle.serde_json.specs.View.{items_of}
use Rattle.serde_json.specs.Written.{compact_text}
use Rattle.gq_text.specs.declared.place.Position.{Position}
use Rattle.gq_text.specs.declared.place.PositionEncoding.{PositionEncoding}
use Rattle.gq_text.specs.declared.place.PositionEncoding.TheVariants as encoding
use Rattle.gq_text.specs.declared.text.Range.{Range}
use Rattle.gq_edit.specs.declared.workspace.TextEdit.{TextEdit}
use Rattle.gq_edit.specs.declared.workspace.TextDocumentEdit.{TextDocumentEdit}
use Rattle.gq_edit.specs.declared.workspace.WorkspaceEdit.{WorkspaceEdit}
use Rattle.gq_rpc.specs.Frames.{frame}
use Rattle.gq_rpc.specs.Actions.{action_name, action_title}
use Rattle.gq_rpc.specs.declared.messages.Id.{Id}
use Rattle.gq_rpc.specs.declared.messages.Id.TheVariants as id
use Rattle.gq_rpc.specs.declared.messages.ServerCapabilities.{ServerCapabilities}
use Rattle.gq_rpc.specs.declared.messages.Hover.{Hover}
use Rattle.gq_rpc.specs.declared.messages.Location.{Location}
use Rattle.gq_rpc.specs.declared.messages.CompletionItemKind.{CompletionItemKind}
use Rattle.gq_rpc.specs.declared.messages.CompletionItemKind.TheVariants as kind
use Rattle.gq_rpc.specs.declared.messages.CompletionItem.{CompletionItem}
use Rattle.gq_rpc.specs.declared.messages.PrepareRename.{PrepareRename}
use Rattle.gq_rpc.specs.declared.messages.CodeActionKind.{CodeActionKind}
use Rattle.gq_rpc.specs.declared.messages.CodeActionKind.TheVariants as action
use Rattle.gq_rpc.specs.declared.messages.CodeAction.{CodeAction}
use Rattle.gq_rpc.specs.declared.messages.Diagnostic.{Diagnostic}
use Rattle.gq_rpc.specs.declared.messages.PublishDiagnosticsParams.{PublishDiagnosticsParams}
use Rattle.gq_rpc.specs.declared.messages.ResponseError.{ResponseError}
use Rattle.gq_rpc.specs.declared.messages.ResponseError.TheVariants as error
use Rattle.gq_rpc.specs.declared.messages.Outgoing.{Outgoing}
use Rattle.gq_rpc.specs.declared.messages.Outgoing.TheVariants as outgoing

abbrev pub id_value : Id → Data
id_value (id.Number n) = number (of_integer n)
id_value (id.Text s) = string s

-- the id, or null
abbrev pub id_or_null : Option Id → Data
id_or_null (Some name) = id_value name
id_or_null None = null

-- a response with a result
abbrev pub response : Id → Data → Data
response name result = object (member (codes "id") (id_value name) (member (codes "jsonrpc") (string (codes "2.0")) (member (codes "result") result no_members)))

-- a response with an error
abbrev pub error_response : Option Id → ℤ → List ℕ → Data
error_response name code message =
    object (member (codes "error") (object (member (codes "code") (number (of_integer code)) (member (codes "message") (string message) no_members)))
    (member (codes "id") (id_or_null name)
    (member (codes "jsonrpc") (string (codes "2.0")) no_members)))

-- ---- the result of initialize

-- texts are sent whole when they are opened, and then by their changes
abbrev pub synchronization : Data
synchronization = object (member (codes "change") (number (unsigned 2)) (member (codes "openClose") (boolean true) no_members))

-- a member that stands only where the flag is true
abbrev pub member_where : Bool → List ℕ → Data → Members → Members
member_where flag name value rest = if flag then member name value rest else rest

-- that renames are answered, and whether what they would be of is answered too
abbrev pub rename_options : Bool → Data
rename_options prepare = if prepare then object (member (codes "prepareProvider") (boolean true) no_members) else boolean true

abbrev pub action_kind : CodeActionKind → Data
action_kind kind = string (action_name kind)

-- the kinds of code actions that are answered
abbrev pub code_action_options : Data
code_action_options =
    object (member (codes "codeActionKinds")
    (array (item (action_kind action.Extract) (item (action_kind action.Inline) (item (action_kind action.Rewrite) no_items))))
    no_members)

-- what positions are counted in (LSP 3.17, PositionEncodingKind)
abbrev pub encoding_name : PositionEncoding → List ℕ
encoding_name encoding.Utf8 = codes "utf-8"
encoding_name encoding.Utf16 = codes "utf-16"

-- `positionEncoding` stands only where there is one
abbrev pub encoding_member : Option PositionEncoding → Members → Members
encoding_member (Some chosen) rest = member (codes "positionEncoding") (string (encoding_name chosen)) rest
encoding_member None rest = rest

abbrev pub capability_members : ServerCapabilities → Members
capability_members capabilities =
    member_where capabilities.code_action_provider (codes "codeActionProvider") code_action_options
    (member_where capabilities.completion_provider (codes "completionProvider") (object no_members)
    (member_where capabilities.definition_provider (codes "definitionProvider") (boolean true)
    (member_where capabilities.hover_provider (codes "hoverProvider") (boolean true)
    (encoding_member capabilities.position_encoding
    (member_where capabilities.references_provider (codes "referencesProvider") (boolean true)
    (member_where capabilities.rename_provider (codes "renameProvider") (rename_options capabilities.prepare_provider)
    (member (codes "textDocumentSync") synchronization no_members)))))))

abbrev pub initialize_result : ServerCapabilities → Data
initialize_result capabilities =
    object (member (codes "capabilities") (object (capability_members capabilities))
    (member (codes "serverInfo") (object (member (codes "name") (string (codes "gqls")) no_members)) no_members))

-- ---- positions and edits

abbrev pub position_value : Position → Data
position_value p = object (member (codes "character") (number (unsigned p.character)) (member (codes "line") (number (unsigned p.line)) no_members))

abbrev pub range_value : Range → Data
range_value r = object (member (codes "end") (position_value r.end) (member (codes "start") (position_value r.start) no_members))

abbrev pub text_edit_value : TextEdit → Data
text_edit_value e = object (member (codes "newText") (string e.new_text) (member (codes "range") (range_value e.range) no_members))

-- the version, or null where there is none
abbrev pub version_or_null : Option ℤ → Data
version_or_null (Some version) = number (of_integer version)
version_or_null None = null

-- the document that an edit is of, with its version
abbrev pub edited_document : TextDocumentEdit → Data
edited_document d = object (member (codes "uri") (string d.uri) (member (codes "version") (version_or_null d.version) no_members))

abbrev pub document_edit_value : TextDocumentEdit → Data
document_edit_value d =
    object (member (codes "edits") (array (items_of (map text_edit_value d.edits))) (member (codes "textDocument") (edited_document d) no_members))

abbrev pub workspace_edit_value : WorkspaceEdit → Data
workspace_edit_value w = object (member (codes "documentChanges") (array (items_of (map document_edit_value w.document_changes))) no_members)

-- ---- answers to questions

abbrev pub hover_value : Hover → Data
hover_value h =
    object (member (codes "contents") (object (member (codes "kind") (string (codes "plaintext")) (member (codes "value") (string h.value) no_members)))
    (member (codes "range") (range_value h.range) no_members))

abbrev pub hover_or_null : Option Hover → Data
hover_or_null (Some h) = hover_value h
hover_or_null None = null

abbrev pub location_value : Location → Data
location_value l = object (member (codes "range") (range_value l.range) (member (codes "uri") (string l.uri) no_members))

abbrev pub kind_number : CompletionItemKind → ℕ
kind_number kind.Field = 5
kind_number kind.Variable = 6
kind_number kind.Reference = 18

abbrev pub completion_value : CompletionItem → Data
completion_value c = object (member (codes "kind") (number (unsigned (kind_number c.kind))) (member (codes "label") (string c.label) no_members))

abbrev pub prepared_value : PrepareRename → Data
prepared_value p = object (member (codes "placeholder") (string p.placeholder) (member (codes "range") (range_value p.range) no_members))

abbrev pub prepared_or_null : Option PrepareRename → Data
prepared_or_null (Some p) = prepared_value p
prepared_or_null None = null

abbrev pub code_action_value : CodeAction → Data
code_action_value a =
    object (member (codes "edit") (workspace_edit_value a.edit)
    (member (codes "kind") (action_kind a.kind)
    (member (codes "title") (string (action_title a.kind)) no_members)))

-- ---- diagnostics

-- an error (severity 1) of this server
abbrev pub diagnostic_value : Diagnostic → Data
diagnostic_value d =
    object (member (codes "code") (string d.code)
    (member (codes "message") (string d.message)
    (member (codes "range") (range_value d.range)
    (member (codes "severity") (number (unsigned 1))
    (member (codes "source") (string (codes "gqls")) no_members)))))

abbrev pub version_members : Option ℤ → Members
version_members (Some version) = member (codes "version") (number (of_integer version)) no_members
version_members None = no_members

abbrev pub diagnostics_value : PublishDiagnosticsParams → Data
diagnostics_value p =
    object (member (codes "diagnostics") (array (items_of (map diagnostic_value p.diagnostics)))
    (member (codes "uri") (string p.uri) (version_members p.version)))

-- a notification
abbrev pub told : List ℕ → Data → Data
told method parameters =
    object (member (codes "jsonrpc") (string (codes "2.0")) (member (codes "method") (string method) (member (codes "params") parameters no_members)))

-- ---- errors

-- the code of an error: -32700, -32600, -32601, -32602, -32002, -32800, -32801, -32803
abbrev pub code_of : ResponseError → ℤ
code_of error.ParseError = negsuc 32699
code_of error.InvalidRequest = negsuc 32599
code_of error.MethodNotFound = negsuc 32600
code_of error.InvalidParams = negsuc 32601
code_of error.NotInitialized = negsuc 32001
code_of error.Cancelled = negsuc 32799
code_of error.ContentModified = negsuc 32800
code_of (error.RequestFailed why) = negsuc 32802

abbrev pub words_of : ResponseError → List ℕ
words_of error.ParseError = codes "parse error"
words_of error.InvalidRequest = codes "invalid request"
words_of error.MethodNotFound = codes "method not found"
words_of error.InvalidParams = codes "invalid params"
words_of error.NotInitialized = codes "not initialized"
words_of error.Cancelled = codes "cancelled"
words_of error.ContentModified = codes "content modified"
words_of (error.RequestFailed why) = why

-- ---- messages

-- the value that a message is
abbrev pub value_of : Outgoing → Data
value_of (outgoing.Initialized name capabilities) = response name (initialize_result capabilities)
value_of (outgoing.ShutDown name) = response name null
value_of (outgoing.Completions name completions) = response name (array (items_of (map completion_value completions)))
value_of (outgoing.Hover name found) = response name (hover_or_null found)
value_of (outgoing.Locations name locations) = response name (array (items_of (map location_value locations)))
value_of (outgoing.Prepared name found) = response name (prepared_or_null found)
value_of (outgoing.Renamed name edit) = response name (workspace_edit_value edit)
value_of (outgoing.CodeActions name actions) = response name (array (items_of (map code_action_value actions)))
value_of (outgoing.Error name why) = error_response name (code_of why) (words_of why)
value_of (outgoing.Diagnostics parameters) = told (codes "textDocument/publishDiagnostics") (diagnostics_value parameters)

-- what is written for a message
abbrev pub frame_of : Outgoing → List ℕ
frame_of message = frame (compact_text (value_of message))
