-- How numbers are spelled (sections 2.9.1, "Int Value", and 2.9.2, "Float Value", of the October 2021 edition).
use Rattle.std.specs.Prelude.{◌≡◌, ℕ, ◌==◌, ◌||◌, ◌&&◌, not, Bool, true, List, [], ◌∷◌, ◌++◌}
use Rattle.gq_lex.specs.Bytes.{Passes, is_digit, is_name_start}

-- NonZeroDigit
abbrev pub is_non_zero_digit : ℕ → Bool
is_non_zero_digit b = is_digit b && not (b == 48)

-- ExponentIndicator: e or E
abbrev pub is_exponent_indicator : ℕ → Bool
is_exponent_indicator b = b == 101 || b == 69

-- Sign: + or -
abbrev pub is_sign : ℕ → Bool
is_sign b = b == 43 || b == 45

-- IntegerPart: 0, or digits of which the first is not 0, and a NegativeSign before them or none
pub data IsIntegerPart : List ℕ → Type 0 where
  zero : IsIntegerPart (48 ∷ [])
  negative_zero : IsIntegerPart (45 ∷ 48 ∷ [])
  digits : {b : ℕ} {bs : List ℕ} → is_non_zero_digit b ≡ true → Passes is_digit bs → IsIntegerPart (b ∷ bs)
  negative_digits : {b : ℕ} {bs : List ℕ} → is_non_zero_digit b ≡ true → Passes is_digit bs → IsIntegerPart (45 ∷ b ∷ bs)

-- FractionalPart: a dot and one digit or more
pub data IsFractionalPart : List ℕ → Type 0 where
  fraction : {b : ℕ} {bs : List ℕ} → is_digit b ≡ true → Passes is_digit bs → IsFractionalPart (46 ∷ b ∷ bs)

-- ExponentPart: an ExponentIndicator, a Sign or none, and one digit or more
pub data IsExponentPart : List ℕ → Type 0 where
  exponent : {e b : ℕ} {bs : List ℕ} → is_exponent_indicator e ≡ true → is_digit b ≡ true → Passes is_digit bs → IsExponentPart (e ∷ b ∷ bs)
  signed_exponent : {e s b : ℕ} {bs : List ℕ} → is_exponent_indicator e ≡ true → is_sign s ≡ true → is_digit b ≡ true → Passes is_digit bs → IsExponentPart (e ∷ s ∷ b ∷ bs)

-- FloatValue: an IntegerPart with a FractionalPart, an ExponentPart or both
pub data IsFloat : List ℕ → Type 0 where
  with_fraction : {part : List ℕ} (a b : List ℕ) → part ≡ a ++ b → IsIntegerPart a → IsFractionalPart b → IsFloat part
  with_exponent : {part : List ℕ} (a b : List ℕ) → part ≡ a ++ b → IsIntegerPart a → IsExponentPart b → IsFloat part
  with_both : {part : List ℕ} (a b c : List ℕ) → part ≡ a ++ (b ++ c) → IsIntegerPart a → IsFractionalPart b → IsExponentPart c → IsFloat part

-- what no number is followed by: a Digit, a dot or a NameStart
abbrev pub is_number_continue : ℕ → Bool
is_number_continue b = is_digit b || b == 46 || is_name_start b
