-- The values of strings and block strings, as they are computed.
use Rattle.std.proofs.Common.{◌≡◌, ℕ, List, [], Option, Some, None, refl, ap, sym, ◌∙◌}
use Rattle.std.specs.Prelude.{unwrap_or}
use Rattle.gq_lex.specs.declared.token.Kind.TheVariants.{String, BlockString}
use Rattle.gq_lex.specs.Tokens.{IsToken}
use Rattle.gq_lex.specs.Decoding.{string_at, raw_at}
use Rattle.gq_lex.specs.Values.{IsStringValue, IsBlockStringValue, block_value}
use Rattle.gq_lex.proofs.Decodings.{string_told, string_decoded, raw_told, raw_decoded}
use Rattle.gq_lex.proofs.Valued.{string_token, block_token}
use Rattle.gq_coerce.specs.Literals.{string_text}

pub string_is : (spelling value : List ℕ) → IsStringValue spelling value → value ≡ string_text spelling
string_is spelling value h = sym (ap (λ o. unwrap_or o (block_value (unwrap_or (raw_at spelling) []))) (string_decoded spelling value h))

no_string_by : (spelling : List ℕ) (o : Option (List ℕ)) → string_at spelling ≡ o → (IsToken String spelling [] → ⊥) → o ≡ None
no_string_by spelling None e h = refl
no_string_by spelling (Some v) e h = absurd (h (string_token (string_told spelling v e)))

pub no_string_is : (spelling value : List ℕ) → ((after : List ℕ) → IsToken String spelling after → ⊥) → value ≡ block_value (unwrap_or (raw_at spelling) []) → value ≡ string_text spelling
no_string_is spelling value h is = is ∙ sym (ap (λ o. unwrap_or o (block_value (unwrap_or (raw_at spelling) []))) (no_string_by spelling (string_at spelling) refl (h [])))

pub block_text_is : (spelling value : List ℕ) → IsBlockStringValue spelling value → value ≡ block_value (unwrap_or (raw_at spelling) [])
block_text_is spelling value h =
    h.value_is ∙ sym (ap (λ o. block_value (unwrap_or o [])) (raw_decoded spelling h.raw record { body = h.body; is = h.is; characters = h.characters }))

no_block_by : (spelling : List ℕ) (o : Option (List ℕ)) → raw_at spelling ≡ o → (IsToken BlockString spelling [] → ⊥) → o ≡ None
no_block_by spelling None e h = refl
no_block_by spelling (Some v) e h = absurd (h (block_token (raw_told spelling v e)))

pub no_block_text : (spelling : List ℕ) → ((after : List ℕ) → IsToken BlockString spelling after → ⊥) → [] ≡ block_value (unwrap_or (raw_at spelling) [])
no_block_text spelling h = sym (ap (λ o. block_value (unwrap_or o [])) (no_block_by spelling (raw_at spelling) refl (h [])))
