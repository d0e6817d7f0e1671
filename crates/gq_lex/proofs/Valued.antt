-- Tokens that are strings or block strings, and their values.
use Rattle.std.proofs.Common.{◌≡◌, ℕ, List, [], ◌∷◌, ◌++◌, Bool, true, false, Option, Some, None, refl, sym, ap, subst, ◌∙◌, arith}
use Rattle.std.specs.Prelude.{IsSome, IfNone}
use Rattle.gq_lex.specs.declared.token.Kind.{Kind}
use Rattle.gq_lex.specs.declared.token.Kind.TheVariants.{String, BlockString}
use Rattle.gq_lex.specs.Bytes.{punctuator, punctuators}
use Rattle.gq_lex.specs.Decoding.{string_at, raw_at}
use Rattle.gq_lex.specs.Strings.{AreCharacters, none}
use Rattle.gq_lex.specs.Tokens.{IsToken, sign, spread, name, int, float, empty_string, string, block_string}
use Rattle.gq_lex.specs.Values.{IsStringValue, IsBlockStringValue, block_value}
use Rattle.gq_lex.proofs.Decodings.{string_decoded, IsRaw, raw_decoded}
use Rattle.gq_lex.proofs.Utf8.{found_value}
use Rattle.gq_lex.proofs.Runs.{some_inj, some_none}

abbrev is_unquoted : Kind → Bool
is_unquoted String = false
is_unquoted BlockString = false
is_unquoted _ = true

signs_unquoted : (b : ℕ) (kind : Kind) → punctuator b ≡ Some kind → is_unquoted kind ≡ true
signs_unquoted b kind h = found_value is_unquoted punctuators b kind h refl

string_unquoted : is_unquoted String ≡ true → ⊥
string_unquoted h = cc

-- a value of the text of a string
pub record StringValue (text : List ℕ) : Type 0 where
  pub value : List ℕ
  pub is : IsStringValue text value

string_value_of : {kind : Kind} {part after : List ℕ} → IsToken kind part after → kind ≡ String → StringValue part
string_value_of (sign {b} {kind} h) e = absurd (string_unquoted (sym (ap is_unquoted e) ∙ signs_unquoted b kind h))
string_value_of spread e = absurd (cc)
string_value_of (name _ _ _) e = absurd (cc)
string_value_of (int _ _) e = absurd (cc)
string_value_of (float _ _) e = absurd (cc)
string_value_of (empty_string _) e = record { value = []; is = record { body = []; is = refl; characters = none } }
string_value_of (string body value is some characters) e = record { value = value; is = record { body = body; is = is; characters = characters } }
string_value_of (block_string _) e = absurd (cc)

pub token_string : {part after : List ℕ} → IsToken String part after → StringValue part
token_string token = string_value_of token refl

token_of_body : (body text value : List ℕ) → text ≡ 34 ∷ (body ++ 34 ∷ []) → AreCharacters body value → IsToken String text []
token_of_body [] text value is characters = subst (λ l. IsToken String l []) (sym is) (empty_string tt)
token_of_body (b ∷ bs) text value is characters = string (b ∷ bs) value is (omega arith) characters

pub string_token : {text value : List ℕ} → IsStringValue text value → IsToken String text []
string_token {text} {value} h = token_of_body h.body text value h.is h.characters

-- where no value was computed, the text is no string
pub no_string : (text after : List ℕ) → string_at text ≡ None → IsToken String text after → ⊥
no_string text after none_told token = let v = token_string token in some_none (sym (string_decoded text v.value v.is) ∙ none_told)

pub one_string : (text a b : List ℕ) → IsStringValue text a → IsStringValue text b → a ≡ b
one_string text a b h k = some_inj (sym (string_decoded text a h) ∙ string_decoded text b k)

pub none_of_some : {X : Type 0} (o : Option X) (P : Type 0) → IsSome o → IfNone o P
none_of_some None P h = absurd (cc)
none_of_some (Some x) P h = tt

-- a value of the text of a block string
pub record BlockValue (text : List ℕ) : Type 0 where
  pub raw : List ℕ
  pub is : IsRaw text raw

block_unquoted : is_unquoted BlockString ≡ true → ⊥
block_unquoted h = cc

block_value_of : {kind : Kind} {part after : List ℕ} → IsToken kind part after → kind ≡ BlockString → BlockValue part
block_value_of (sign {b} {kind} h) e = absurd (block_unquoted (sym (ap is_unquoted e) ∙ signs_unquoted b kind h))
block_value_of spread e = absurd (cc)
block_value_of (name _ _ _) e = absurd (cc)
block_value_of (int _ _) e = absurd (cc)
block_value_of (float _ _) e = absurd (cc)
block_value_of (empty_string _) e = absurd (cc)
block_value_of (string _ _ _ _ _) e = absurd (cc)
block_value_of (block_string {body} {raw} characters) e = record { raw = raw; is = record { body = body; is = refl; characters = characters } }

pub token_block : {part after : List ℕ} → IsToken BlockString part after → BlockValue part
token_block token = block_value_of token refl

pub block_token : {text raw : List ℕ} → IsRaw text raw → IsToken BlockString text []
block_token h = subst (λ l. IsToken BlockString l []) (sym h.is) (block_string h.characters)

pub block_is : {text raw : List ℕ} (value : List ℕ) → IsRaw text raw → value ≡ block_value raw → IsBlockStringValue text value
block_is {text} {raw} value h is = record { body = h.body; raw = raw; is = h.is; characters = h.characters; value_is = is }

raw_of : {text value : List ℕ} (h : IsBlockStringValue text value) → IsRaw text h.raw
raw_of h = record { body = h.body; is = h.is; characters = h.characters }

-- where no characters were computed, the text is no block string
pub no_block : (text after : List ℕ) → raw_at text ≡ None → IsToken BlockString text after → ⊥
no_block text after none_told token = let v = token_block token in some_none (sym (raw_decoded text v.raw v.is) ∙ none_told)

pub one_block : (text a b : List ℕ) → IsBlockStringValue text a → IsBlockStringValue text b → a ≡ b
one_block text a b h k = h.value_is ∙ ap block_value (some_inj (sym (raw_decoded text h.raw (raw_of h)) ∙ raw_decoded text k.raw (raw_of k))) ∙ sym k.value_is
