-- Which message a JSON value is: requests, notifications and answers of JSON-RPC 2.0, with the parameters of LSP 3.17.
use Rattle.std.specs.Prelude.{ℕ, ◌^◌, ℤ, Bool, List, [], ◌∷◌, false, nat_lt, codes, Option, Some, None, is_some, unwrap_or, ◌||◌, ◌&&◌, option_map, option_and_then, if◌then◌else◌, bytes_eq}
use Rattle.std.specs.Str.{is_utf8}
use Rattle.serde_json.specs.Data.{Data, null, boolean, number, string, array, object, Items, no_items, item}
use Rattle.serde_json.specs.Find.{get, as_null, as_bool, as_str, as_number, as_array, as_object, as_i64, as_u64}
use Rattle.serde_json.specs.Read.{read}
use Rattle.gq_text.specs.declared.place.Position.{Position}
use Rattle.gq_text.specs.declared.place.PositionEncoding.{PositionEncoding}
use Rattle.gq_text.specs.declared.place.PositionEncoding.TheVariants as encoding
use Rattle.gq_text.specs.declared.text.Range.{Range}
use Rattle.gq_text.specs.declared.text.Change.{Change}
use Rattle.gq_text.specs.declared.text.Change.TheVariants as change
use Rattle.gq_rpc.specs.Keys.{key_of_uri}
use Rattle.gq_rpc.specs.declared.messages.Id.{Id}
use Rattle.gq_rpc.specs.declared.messages.Id.TheVariants as id
use Rattle.gq_rpc.specs.declared.messages.ClientCapabilities.{ClientCapabilities}
use Rattle.gq_rpc.specs.declared.messages.TextDocumentPositionParams.{TextDocumentPositionParams}
use Rattle.gq_rpc.specs.declared.messages.CodeActionContext.{CodeActionContext}
use Rattle.gq_rpc.specs.declared.messages.Question.{Question}
use Rattle.gq_rpc.specs.declared.messages.Question.TheVariants as question
use Rattle.gq_rpc.specs.declared.messages.Request.{Request}
use Rattle.gq_rpc.specs.declared.messages.Request.TheVariants as request
use Rattle.gq_rpc.specs.declared.messages.Notification.{Notification}
use Rattle.gq_rpc.specs.declared.messages.Notification.TheVariants as notification
use Rattle.gq_rpc.specs.declared.messages.Incoming.{Incoming}
use Rattle.gq_rpc.specs.declared.messages.Incoming.TheVariants as incoming

-- an id is a signed integer of 64 bits or a string
abbrev pub id_of : Data → Option Id
id_of null = None
id_of (boolean b) = None
id_of (number n) = option_map id.Number (as_i64 n)
id_of (string s) = Some (id.Text s)
id_of (array ds) = None
id_of (object ms) = None

-- the id of a message, where it has one that is an id
abbrev pub id_in : Data → Option Id
id_in message = option_and_then id_of (get (codes "id") message)

-- ---- parameters

-- a member of a value that may be missing
abbrev pub member_in : List ℕ → Option Data → Option Data
member_in name found = option_and_then (get name) found

-- a parameter of a message
abbrev pub parameter : List ℕ → Data → Option Data
parameter name message = member_in name (get (codes "params") message)

-- a member of the parameter `textDocument`
abbrev pub document_member : List ℕ → Data → Option Data
document_member name message = member_in name (parameter (codes "textDocument") message)

-- a member that may be left out: null counts as missing
abbrev pub unless_null : Data → Option Data
unless_null value = if is_some (as_null value) then None else Some value

abbrev pub optional_in : Option Data → Option Data
optional_in found = option_and_then unless_null found

-- a string
abbrev pub string_in : Option Data → Option (List ℕ)
string_in found = option_and_then as_str found

abbrev pub boolean_in : Option Data → Option Bool
boolean_in found = option_and_then as_bool found

-- a signed integer of 64 bits
abbrev pub integer_in : Option Data → Option ℤ
integer_in found = option_and_then as_i64 (option_and_then as_number found)

-- an integer from 0 to 2^31 - 1
abbrev pub small : ℕ → Option ℕ
small n = if nat_lt n (2 ^ 31) then Some n else None

abbrev pub uinteger_in : Option Data → Option ℕ
uinteger_in found = option_and_then small (option_and_then as_u64 (option_and_then as_number found))

-- ---- initialize (LSP 3.17, ClientCapabilities)

-- a member of `params.capabilities`
abbrev pub capability : List ℕ → Data → Option Data
capability name message = member_in name (parameter (codes "capabilities") message)

-- a member of its `workspace.workspaceEdit`
abbrev pub edit_capability : List ℕ → Data → Option Data
edit_capability name message = member_in name (member_in (codes "workspaceEdit") (capability (codes "workspace") message))

-- a member of its `textDocument`
abbrev pub document_capability : List ℕ → Data → Option Data
document_capability name message = member_in name (capability (codes "textDocument") message)

-- a capability that is missing or of another kind is absent
abbrev pub is_true_in : Option Data → Bool
is_true_in found = unwrap_or (boolean_in found) false

abbrev pub is_object_in : Option Data → Bool
is_object_in found = is_some (option_and_then as_object found)

-- code actions can hold edits with versions: they need not be commands, and versions are taken
abbrev pub takes_code_actions : Data → Bool
takes_code_actions message =
    is_true_in (edit_capability (codes "documentChanges") message)
    && is_object_in (member_in (codes "codeActionLiteralSupport") (document_capability (codes "codeAction") message))

-- the encoding of positions of this name (LSP 3.17, PositionEncodingKind), if this server knows it
abbrev pub encoding_called : List ℕ → Option PositionEncoding
encoding_called name =
    if bytes_eq name (codes "utf-8") then Some encoding.Utf8
    else (if bytes_eq name (codes "utf-16") then Some encoding.Utf16 else None)

abbrev pub encoding_named : Data → Option PositionEncoding
encoding_named value = option_and_then encoding_called (as_str value)

-- the first that the items of an array name, the others passed over, else UTF-16
abbrev pub first_encoding : Items → PositionEncoding
first_encoding no_items = encoding.Utf16
first_encoding (item value values) = unwrap_or (encoding_named value) (first_encoding values)

-- none without an array (LSP 3.17, general client capabilities, `positionEncodings`)
abbrev pub position_encoding_in : Option Data → Option PositionEncoding
position_encoding_in found = option_map first_encoding (option_and_then as_array found)

abbrev pub client_capabilities_of : Data → ClientCapabilities
client_capabilities_of message = record {
  document_changes = is_true_in (edit_capability (codes "documentChanges") message);
  prepare_support = is_true_in (member_in (codes "prepareSupport") (document_capability (codes "rename") message));
  code_actions = takes_code_actions message;
  completion = is_object_in (document_capability (codes "completion") message);
  definition = is_object_in (document_capability (codes "definition") message);
  hover = is_object_in (document_capability (codes "hover") message);
  publish_diagnostics = is_object_in (document_capability (codes "publishDiagnostics") message);
  references = is_object_in (document_capability (codes "references") message);
  position_encoding = position_encoding_in (member_in (codes "positionEncodings") (capability (codes "general") message));
}

-- ---- documents, positions and ranges (LSP 3.17, TextDocumentIdentifier, Position and Range)

-- the key of the document that a message names
abbrev pub key_in : Data → Option (List ℕ)
key_in message = option_and_then key_of_uri (string_in (document_member (codes "uri") message))

abbrev pub position_of : Option ℕ → Option ℕ → Option Position
position_of (Some line) (Some character) = Some (record { line = line; character = character })
position_of (Some line) None = None
position_of None character = None

-- the position that a value is
abbrev pub position_from : Data → Option Position
position_from value = position_of (uinteger_in (get (codes "line") value)) (uinteger_in (get (codes "character") value))

abbrev pub range_of : Option Position → Option Position → Option Range
range_of (Some start) (Some end) = Some (record { start = start; end = end })
range_of (Some start) None = None
range_of None end = None

-- the range that a value is
abbrev pub range_from : Data → Option Range
range_from value = range_of (option_and_then position_from (get (codes "start") value)) (option_and_then position_from (get (codes "end") value))

-- ---- questions (LSP 3.17, "Language Features")

abbrev pub place_of : Option (List ℕ) → Option Position → Option TextDocumentPositionParams
place_of (Some key) (Some position) = Some (record { key = key; position = position })
place_of (Some key) None = None
place_of None position = None

-- the place that a message asks about
abbrev pub place_in : Data → Option TextDocumentPositionParams
place_in message = place_of (key_in message) (option_and_then position_from (parameter (codes "position") message))

abbrev pub references_of : Option TextDocumentPositionParams → Option Bool → Option Question
references_of (Some place) (Some wanted) = Some (question.References (record { key = place.key; position = place.position; include_declaration = wanted }))
references_of (Some place) None = None
references_of None wanted = None

-- `context.includeDeclaration` is required
abbrev pub references_in : Data → Option Question
references_in message = references_of (place_in message) (boolean_in (member_in (codes "includeDeclaration") (parameter (codes "context") message)))

abbrev pub rename_of : Option TextDocumentPositionParams → Option (List ℕ) → Option Question
rename_of (Some place) (Some new_name) = Some (question.Rename (record { key = place.key; position = place.position; new_name = new_name }))
rename_of (Some place) None = None
rename_of None new_name = None

abbrev pub rename_in : Data → Option Question
rename_in message = rename_of (place_in message) (string_in (parameter (codes "newName") message))

-- ---- textDocument/codeAction (LSP 3.17, CodeActionParams and CodeActionContext)

abbrev pub before_strings : Option (List ℕ) → Option (List (List ℕ)) → Option (List (List ℕ))
before_strings (Some first) (Some others) = Some (first ∷ others)
before_strings (Some first) None = None
before_strings None others = None

-- the strings that the items of an array are, unless one of them is none
abbrev pub strings_from : Items → Option (List (List ℕ))
strings_from no_items = Some []
strings_from (item value values) = before_strings (as_str value) (strings_from values)

-- an array of strings, where it is not left out
abbrev pub only_of : Option Data → Option CodeActionContext
only_of None = Some (record { only = None })
only_of (Some kinds) = option_map (λ names. record { only = Some names }) (option_and_then strings_from (as_array kinds))

-- an object; of its members `only` alone is looked at
abbrev pub context_from : Data → Option CodeActionContext
context_from value = if is_some (as_object value) then only_of (optional_in (get (codes "only") value)) else None

-- `context` is required
abbrev pub context_in : Data → Option CodeActionContext
context_in message = option_and_then context_from (parameter (codes "context") message)

abbrev pub code_action_of : Option (List ℕ) → Option Range → Option CodeActionContext → Option Question
code_action_of (Some key) (Some range) (Some context) = Some (question.CodeAction (record { key = key; range = range; only = context.only }))
code_action_of (Some key) (Some range) None = None
code_action_of (Some key) None context = None
code_action_of None range context = None

abbrev pub code_action_in : Data → Option Question
code_action_in message = code_action_of (key_in message) (option_and_then range_from (parameter (codes "range") message)) (context_in message)

-- a question, unless its parameters cannot be read
abbrev pub asked : Option Question → Request
asked (Some q) = request.Ask q
asked None = request.InvalidParams

-- which question a method with its message asks, if it is the method of one
abbrev pub question_of : List ℕ → Data → Request
question_of method message =
    if bytes_eq method (codes "textDocument/completion") then asked (option_map question.Completion (place_in message))
    else (if bytes_eq method (codes "textDocument/definition") then asked (option_map question.Definition (place_in message))
    else (if bytes_eq method (codes "textDocument/hover") then asked (option_map question.Hover (place_in message))
    else (if bytes_eq method (codes "textDocument/prepareRename") then asked (option_map question.PrepareRename (place_in message))
    else (if bytes_eq method (codes "textDocument/references") then asked (references_in message)
    else (if bytes_eq method (codes "textDocument/rename") then asked (rename_in message)
    else (if bytes_eq method (codes "textDocument/codeAction") then asked (code_action_in message)
    else request.Unknown))))))

-- which request a method with its message is
abbrev pub request_of : List ℕ → Data → Request
request_of method message =
    if bytes_eq method (codes "initialize") then request.Initialize (client_capabilities_of message)
    else (if bytes_eq method (codes "shutdown") then request.Shutdown
    else question_of method message)

-- ---- textDocument/didOpen (LSP 3.17, DidOpenTextDocumentParams)

abbrev pub open_of : Option (List ℕ) → Option (List ℕ) → Option ℤ → Option (List ℕ) → Notification
open_of (Some uri) (Some key) (Some version) (Some text) = notification.DidOpen (record { key = key; uri = uri; version = version; text = text })
open_of (Some uri) (Some key) (Some version) None = notification.Unknown
open_of (Some uri) (Some key) None text = notification.Unknown
open_of (Some uri) None version text = notification.Unknown
open_of None key version text = notification.Unknown

-- the document that a message opens, unless its parameters cannot be read
abbrev pub open_in : Data → Notification
open_in message =
    open_of (string_in (document_member (codes "uri") message)) (key_in message)
    (integer_in (document_member (codes "version") message)) (string_in (document_member (codes "text") message))

-- ---- textDocument/didChange (LSP 3.17, DidChangeTextDocumentParams)

-- a change to this text, of the whole document where there is no range
abbrev pub change_of : Option Data → List ℕ → Option Change
change_of None text = Some (change.Whole text)
change_of (Some range) text = option_map (λ r. change.Part r text) (range_from range)

-- the change that a value is
abbrev pub change_from : Data → Option Change
change_from value = option_and_then (change_of (optional_in (get (codes "range") value))) (string_in (get (codes "text") value))

abbrev pub before_changes : Option Change → Option (List Change) → Option (List Change)
before_changes (Some first) (Some others) = Some (first ∷ others)
before_changes (Some first) None = None
before_changes None others = None

-- the changes that the items of an array are, unless one of them is none
abbrev pub changes_from : Items → Option (List Change)
changes_from no_items = Some []
changes_from (item value values) = before_changes (change_from value) (changes_from values)

abbrev pub changes_in : Data → Option (List Change)
changes_in message = option_and_then changes_from (option_and_then as_array (parameter (codes "contentChanges") message))

abbrev pub changed_of : Option (List ℕ) → Option ℤ → Option (List Change) → Notification
changed_of (Some key) version changes = notification.DidChange (record { key = key; version = version; changes = changes })
changed_of None version changes = notification.Unknown

-- the changes of a document, unless no document is named; a version or changes that cannot be read are none
abbrev pub changed_in : Data → Notification
changed_in message = changed_of (key_in message) (integer_in (document_member (codes "version") message)) (changes_in message)

-- ---- textDocument/didClose and $/cancelRequest

abbrev pub closed_of : Option (List ℕ) → Notification
closed_of (Some key) = notification.DidClose key
closed_of None = notification.Unknown

abbrev pub cancelled_of : Option Id → Notification
cancelled_of (Some name) = notification.Cancel name
cancelled_of None = notification.Unknown

-- the request that a message takes back
abbrev pub cancelled_in : Data → Notification
cancelled_in message = cancelled_of (option_and_then id_of (parameter (codes "id") message))

-- which notification a method with its message is
abbrev pub notification_of : List ℕ → Data → Notification
notification_of method message =
    if bytes_eq method (codes "exit") then notification.Exit
    else (if bytes_eq method (codes "$/cancelRequest") then cancelled_in message
    else (if bytes_eq method (codes "textDocument/didOpen") then open_in message
    else (if bytes_eq method (codes "textDocument/didChange") then changed_in message
    else (if bytes_eq method (codes "textDocument/didClose") then closed_of (key_in message)
    else notification.Unknown))))

-- ---- messages

-- a message with this method and an id, unless that is none
abbrev pub with_id : List ℕ → Option Id → Data → Incoming
with_id method (Some name) message = incoming.Request name (request_of method message)
with_id method None message = incoming.Invalid None

-- a message with this method: a request where it has an id, else a notification
abbrev pub with_method : List ℕ → Option Data → Data → Incoming
with_method method None message = incoming.Notification (notification_of method message)
with_method method (Some name) message = with_id method (id_of name) message

-- a message whose method is this string, or is no string
abbrev pub with_string : Option (List ℕ) → Data → Incoming
with_string (Some method) message = with_method method (get (codes "id") message) message
with_string None message = incoming.Invalid (id_in message)

-- a message by its method; without one it is an answer where it has `result` or `error`
abbrev pub by_method : Option Data → Data → Incoming
by_method (Some method) message = with_string (as_str method) message
by_method None message =
    if is_some (get (codes "result") message) || is_some (get (codes "error") message) then incoming.Ignored
    else incoming.Invalid (id_in message)

-- the message that a value is
abbrev pub decoded : Data → Incoming
decoded message = by_method (get (codes "method") message) message

-- the value that a body is, where it is JSON in UTF-8
abbrev pub body_value : List ℕ → Option Data
body_value body = if is_utf8 body then read body else None

abbrev pub message_in : Option Data → Incoming
message_in (Some value) = decoded value
message_in None = incoming.NotJson

-- the message that a body is
abbrev pub message_of : List ℕ → Incoming
message_of body = message_in (body_value body)
