-- Which value a body is.
use Rattle.std.proofs.Common.{◌≡◌, ℕ, List, Bool, true, false, Some, None, cond, refl, ap, ◌∙◌}
use Rattle.std.specs.Prelude.{IsUtf8}
use Rattle.std.specs.Str.{is_utf8}
use Rattle.std.proofs.lemmas.Str.{IsUtf8-from_is_utf8, is_utf8-from_IsUtf8}
use Rattle.serde_json.specs.Data.{Data}
use Rattle.serde_json.specs.Read.{read}
use Rattle.gq_rpc.specs.Decoding.{message_in, message_of, decoded}
use Rattle.gq_rpc.specs.declared.messages.Incoming.TheVariants as incoming

not_utf8_is : (body : List ℕ) (b : Bool) → is_utf8 body ≡ b → ¬ IsUtf8 body → b ≡ false
not_utf8_is body true e h = absurd (h (IsUtf8-from_is_utf8 body e))
not_utf8_is body false e h = refl

-- a body that is no text is no JSON
pub message_of-no_text : (body : List ℕ) → ¬ IsUtf8 body → message_of body ≡ incoming.NotJson
message_of-no_text body h = ap (λ b. message_in (cond b (read body) None)) (not_utf8_is body (is_utf8 body) refl h)

-- a body that is text is what it reads as
pub message_of-text : (body : List ℕ) → IsUtf8 body → message_of body ≡ message_in (read body)
message_of-text body h = ap (λ b. message_in (cond b (read body) None)) (is_utf8-from_IsUtf8 body h)

-- a text that is no JSON
pub message_of-bad : (body : List ℕ) → IsUtf8 body → read body ≡ None → message_of body ≡ incoming.NotJson
message_of-bad body h e = message_of-text body h ∙ ap message_in e

-- a text that reads as a value
pub message_of-value : (body : List ℕ) (d : Data) → IsUtf8 body → read body ≡ Some d → message_of body ≡ decoded d
message_of-value body d h e = message_of-text body h ∙ ap message_in e
