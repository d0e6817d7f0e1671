-- The values of messages have no floats.
use Rattle.std.proofs.Common.{◌≡◌, ℕ, Bool, true, false, codes, ◌||◌, List, [], ◌∷◌, map, Option, Some, None, refl, ap, ◌∙◌}
use Rattle.std.specs.Prelude.{ℤ, pos, negsuc}
use Rattle.serde_json.specs.Data.{Data, null, array, Members}
use Rattle.serde_json.specs.Find.{of_integer, is_float}
use Rattle.serde_json.specs.View.{items_of}
use Rattle.serde_json.specs.Written.{has_float, items_have_float, members_have_float}
use Rattle.gq_edit.specs.declared.workspace.TextEdit.{TextEdit}
use Rattle.gq_edit.specs.declared.workspace.TextDocumentEdit.{TextDocumentEdit}
use Rattle.gq_rpc.specs.declared.messages.Id.{Id}
use Rattle.gq_rpc.specs.declared.messages.Id.TheVariants as id
use Rattle.gq_rpc.specs.declared.messages.ServerCapabilities.{ServerCapabilities}
use Rattle.gq_rpc.specs.declared.messages.Hover.{Hover}
use Rattle.gq_rpc.specs.declared.messages.Location.{Location}
use Rattle.gq_rpc.specs.declared.messages.CompletionItem.{CompletionItem}
use Rattle.gq_rpc.specs.declared.messages.PrepareRename.{PrepareRename}
use Rattle.gq_rpc.specs.declared.messages.CodeAction.{CodeAction}
use Rattle.gq_rpc.specs.declared.messages.Diagnostic.{Diagnostic}
use Rattle.gq_rpc.specs.declared.messages.PublishDiagnosticsParams.{PublishDiagnosticsParams}
use Rattle.gq_rpc.specs.declared.messages.Outgoing.{Outgoing}
use Rattle.gq_rpc.specs.declared.messages.Outgoing.TheVariants as outgoing
use Rattle.gq_text.specs.declared.place.PositionEncoding.{PositionEncoding}
use Rattle.gq_rpc.specs.Encoding.{id_value, id_or_null, response, error_response, member_where, encoding_member, rename_options, initialize_result, capability_members, text_edit_value, version_or_null, document_edit_value, workspace_edit_value, hover_or_null, location_value, completion_value, prepared_or_null, code_action_value, diagnostic_value, version_members, diagnostics_value, told, code_of, words_of, value_of}

integer_no_float : (z : ℤ) → is_float (of_integer z) ≡ false
integer_no_float (pos n) = refl
integer_no_float (negsuc n) = refl

id_no_float : (name : Id) → has_float (id_value name) ≡ false
id_no_float (id.Number n) = integer_no_float n
id_no_float (id.Text s) = refl

optional_id_no_float : (name : Option Id) → has_float (id_or_null name) ≡ false
optional_id_no_float None = refl
optional_id_no_float (Some name) = id_no_float name

text_edits_no_float : (edits : List TextEdit) → items_have_float (items_of (map text_edit_value edits)) ≡ false
text_edits_no_float [] = refl
text_edits_no_float (edit ∷ edits) = text_edits_no_float edits

version_or_null_no_float : (version : Option ℤ) → has_float (version_or_null version) ≡ false
version_or_null_no_float None = refl
version_or_null_no_float (Some z) = integer_no_float z

document_edit_no_float : (edit : TextDocumentEdit) → has_float (document_edit_value edit) ≡ false
document_edit_no_float edit =
    ap (λ t. t || ((has_float (version_or_null edit.version) || false) || false)) (text_edits_no_float edit.edits) ∙ ap (λ t. (t || false) || false) (version_or_null_no_float edit.version)

document_edits_no_float : (edits : List TextDocumentEdit) → items_have_float (items_of (map document_edit_value edits)) ≡ false
document_edits_no_float [] = refl
document_edits_no_float (edit ∷ edits) =
    ap (λ t. t || items_have_float (items_of (map document_edit_value edits))) (document_edit_no_float edit) ∙ document_edits_no_float edits

where_no_float : (flag : Bool) (name : List ℕ) (value : Data) (rest : Members) → has_float value ≡ false → members_have_float rest ≡ false → members_have_float (member_where flag name value rest) ≡ false
where_no_float true name value rest e h = ap (λ t. t || members_have_float rest) e ∙ h
where_no_float false name value rest e h = h

rename_options_no_float : (prepare : Bool) → has_float (rename_options prepare) ≡ false
rename_options_no_float true = refl
rename_options_no_float false = refl

encoding_no_float : (e : Option PositionEncoding) (rest : Members) → members_have_float rest ≡ false → members_have_float (encoding_member e rest) ≡ false
encoding_no_float (Some e) rest h = h
encoding_no_float None rest h = h

members_no_float : (c : ServerCapabilities) → members_have_float (capability_members c) ≡ false
members_no_float c =
    where_no_float c.code_action_provider _ _ _ refl
    (where_no_float c.completion_provider _ _ _ refl
    (where_no_float c.definition_provider _ _ _ refl
    (where_no_float c.hover_provider _ _ _ refl
    (encoding_no_float c.position_encoding _
    (where_no_float c.references_provider _ _ _ refl
    (where_no_float c.rename_provider _ _ _ (rename_options_no_float c.prepare_provider) refl))))))

hover_no_float : (found : Option Hover) → has_float (hover_or_null found) ≡ false
hover_no_float None = refl
hover_no_float (Some h) = refl

locations_no_float : (locations : List Location) → items_have_float (items_of (map location_value locations)) ≡ false
locations_no_float [] = refl
locations_no_float (l ∷ locations) = locations_no_float locations

completions_no_float : (completions : List CompletionItem) → items_have_float (items_of (map completion_value completions)) ≡ false
completions_no_float [] = refl
completions_no_float (c ∷ completions) = completions_no_float completions

prepared_no_float : (found : Option PrepareRename) → has_float (prepared_or_null found) ≡ false
prepared_no_float None = refl
prepared_no_float (Some p) = refl

code_action_no_float : (action : CodeAction) → has_float (code_action_value action) ≡ false
code_action_no_float action = ap (λ t. (t || false) || false) (document_edits_no_float action.edit.document_changes)

code_actions_no_float : (actions : List CodeAction) → items_have_float (items_of (map code_action_value actions)) ≡ false
code_actions_no_float [] = refl
code_actions_no_float (action ∷ actions) = ap (λ t. t || items_have_float (items_of (map code_action_value actions))) (code_action_no_float action) ∙ code_actions_no_float actions

diagnostic_list_no_float : (diagnostics : List Diagnostic) → items_have_float (items_of (map diagnostic_value diagnostics)) ≡ false
diagnostic_list_no_float [] = refl
diagnostic_list_no_float (d ∷ diagnostics) = diagnostic_list_no_float diagnostics

version_no_float : (version : Option ℤ) → members_have_float (version_members version) ≡ false
version_no_float None = refl
version_no_float (Some z) = ap (λ t. t || false) (integer_no_float z)

diagnostics_no_float : (p : PublishDiagnosticsParams) → has_float (diagnostics_value p) ≡ false
diagnostics_no_float p =
    ap (λ t. t || members_have_float (version_members p.version)) (diagnostic_list_no_float p.diagnostics) ∙ version_no_float p.version

told_no_float : (method : List ℕ) (parameters : Data) → has_float parameters ≡ false → has_float (told method parameters) ≡ false
told_no_float method parameters h = ap (λ t. t || false) h

response_no_float : (name : Id) (result : Data) → has_float result ≡ false → has_float (response name result) ≡ false
response_no_float name result h =
    ap (λ t. t || (has_float result || false)) (id_no_float name) ∙ ap (λ t. t || false) h

error_no_float : (name : Option Id) (code : ℤ) (words : List ℕ) → has_float (error_response name code words) ≡ false
error_no_float name code words =
    ap (λ t. (t || false) || (has_float (id_or_null name) || false)) (integer_no_float code) ∙ ap (λ t. t || false) (optional_id_no_float name)

-- no message has a float
pub value_of-no_float : (message : Outgoing) → has_float (value_of message) ≡ false
value_of-no_float (outgoing.Initialized name capabilities) =
    response_no_float name (initialize_result capabilities) (ap (λ t. t || false) (members_no_float capabilities))
value_of-no_float (outgoing.ShutDown name) = response_no_float name null refl
value_of-no_float (outgoing.Completions name completions) = response_no_float name (array (items_of (map completion_value completions))) (completions_no_float completions)
value_of-no_float (outgoing.Hover name found) = response_no_float name (hover_or_null found) (hover_no_float found)
value_of-no_float (outgoing.Locations name locations) = response_no_float name (array (items_of (map location_value locations))) (locations_no_float locations)
value_of-no_float (outgoing.Prepared name found) = response_no_float name (prepared_or_null found) (prepared_no_float found)
value_of-no_float (outgoing.Renamed name edit) =
    response_no_float name (workspace_edit_value edit) (ap (λ t. t || false) (document_edits_no_float edit.document_changes))
value_of-no_float (outgoing.CodeActions name actions) = response_no_float name (array (items_of (map code_action_value actions))) (code_actions_no_float actions)
value_of-no_float (outgoing.Error name why) = error_no_float name (code_of why) (words_of why)
value_of-no_float (outgoing.Diagnostics parameters) = told_no_float (codes "textDocument/publishDiagnostics") (diagnostics_value parameters) (diagnostics_no_float parameters)
