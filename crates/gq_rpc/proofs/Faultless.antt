-- The text of the notification that a document has no diagnostics.
use Rattle.std.proofs.Common.{◌≡◌, ℕ, ℤ, pos, negsuc, codes, true, List, [], ◌∷◌, ◌++◌, Some, refl, sym, ap, ◌∙◌, append_assoc, append-nil}
use Rattle.std.specs.Fmt.{signed_decimal}
use Rattle.json.specs.Token.{Token}
use Rattle.json.specs.Print.{escape_byte, quoted, token_text, print, print_from}
use Rattle.serde_json.specs.Find.{of_integer}
use Rattle.serde_json.specs.Written.{number_text, compact_text, members_text}
use Rattle.gq_rpc.specs.declared.messages.Diagnostic.{Diagnostic}
use Rattle.gq_rpc.specs.declared.messages.PublishDiagnosticsParams.{PublishDiagnosticsParams}
use Rattle.gq_rpc.specs.Encoding.{version_members, diagnostics_value, told}

-- what is written where one token is written behind bytes
pub one_printed : (t : Token) (bytes before start : List ℕ) (old written : List Token)
    → bytes ≡ before ++ print written → before ≡ start → old ≡ [] → written ≡ old ++ t ∷ [] → bytes ≡ start ++ token_text t
unfolding print_from
one_printed t bytes before start old written items same none one =
    items ∙ ap (λ b. b ++ print written) same ∙ ap (λ ts. start ++ print ts) (one ∙ ap (λ o. o ++ t ∷ []) none)
    ∙ ap (λ b. start ++ b) (append-nil (token_text t))

digits : (z : ℤ) → signed_decimal z ≡ number_text (of_integer z)
digits (pos n) = refl
digits (negsuc n) = refl

abbrev version_key : List ℕ
version_key = 44 ∷ codes "\"version\":"

-- the last member of an object, and its end
pub last_member : (version : ℤ) (start front back all : List ℕ)
    → front ≡ start ++ version_key → back ≡ front ++ signed_decimal version → all ≡ back ++ 125 ∷ []
    → all ≡ start ++ members_text true (version_members (Some version))
unfolding escape_byte
last_member version start front back all key number end =
    end ∙ ap (λ b. b ++ 125 ∷ []) (number ∙ ap (λ b. b ++ signed_decimal version) key)
    ∙ append_assoc (start ++ version_key) (signed_decimal version) (125 ∷ []) ∙ append_assoc start version_key (signed_decimal version ++ 125 ∷ [])
    ∙ ap (λ d. start ++ (version_key ++ (d ++ 125 ∷ []))) (digits version)

abbrev before_uri : List ℕ
before_uri = codes "{\"jsonrpc\":\"2.0\",\"method\":\"textDocument/publishDiagnostics\",\"params\":{\"diagnostics\":[],\"uri\":"

-- the text of the notification with these diagnostics and this URI
abbrev told_text : List Diagnostic → List ℕ → PublishDiagnosticsParams → List ℕ
told_text diagnostics uri p = compact_text (told (codes "textDocument/publishDiagnostics") (diagnostics_value (record p { diagnostics = diagnostics; uri = uri })))

faultless : (uri : List ℕ) (p : PublishDiagnosticsParams) → ((before_uri ++ quoted uri) ++ members_text true (version_members p.version)) ++ 125 ∷ [] ≡ told_text [] uri p
unfolding escape_byte
faultless uri p = refl

-- where there are no diagnostics, these writes are the notification
pub faultless_text : (p : PublishDiagnosticsParams) (uri none front named ended all : List ℕ)
    → front ≡ none ++ before_uri → none ≡ [] → named ≡ front ++ quoted uri → ended ≡ named ++ members_text true (version_members p.version) → all ≡ ended ++ 125 ∷ []
    → uri ≡ p.uri → p.diagnostics ≡ []
    → all ≡ compact_text (told (codes "textDocument/publishDiagnostics") (diagnostics_value p))
faultless_text p uri none front named ended all e1 e2 e3 e4 e5 same empty =
    e5 ∙ ap (λ b. b ++ 125 ∷ []) (e4 ∙ ap (λ b. b ++ members_text true (version_members p.version)) (e3 ∙ ap (λ b. b ++ quoted uri) (e1 ∙ ap (λ b. b ++ before_uri) e2)))
    ∙ faultless uri p
    ∙ ap (λ u. told_text [] u p) same
    ∙ ap (λ ds. told_text ds p.uri p) (sym empty)
