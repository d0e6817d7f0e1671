-- Which JSON bytes are.
use Rattle.std.proofs.Common.{◌≡◌, ℕ, List, Bool, true, false, Some, None, cond, refl, ap, ◌∙◌}
use Rattle.std.specs.Prelude.{IsUtf8}
use Rattle.std.specs.Str.{is_utf8}
use Rattle.std.proofs.lemmas.Str.{IsUtf8-from_is_utf8, is_utf8-from_IsUtf8}
use Rattle.serde_json.specs.Data.{Data}
use Rattle.serde_json.specs.Read.{read}
use Rattle.gq_rpc.specs.Decoding.{body_value}

pub value_is : (bytes : List ℕ) (d : Data) → IsUtf8 bytes → read bytes ≡ Some d → body_value bytes ≡ Some d
value_is bytes d h e = ap (λ (b : Bool). cond b (read bytes) None) (is_utf8-from_IsUtf8 bytes h) ∙ e

pub no_value : (bytes : List ℕ) → (IsUtf8 bytes → read bytes ≡ None) → body_value bytes ≡ None
no_value bytes h = by (is_utf8 bytes) refl
  where
    by : (b : Bool) → is_utf8 bytes ≡ b → cond b (read bytes) None ≡ None
    by true e = h (IsUtf8-from_is_utf8 bytes e)
    by false e = refl
