-- Numbers by their spelling (sections 2.9.1 and 2.9.2), as tests.
use Rattle.std.specs.Prelude.{Bool, true, false, not, [], ◌∷◌, length, drop, codes, nat_eq, nat_lt, if◌then◌else◌, ◌&&◌, ◌||◌}
use Rattle.std.specs.List.{list_any, prefix_len}
use Rattle.std.specs.Str.{bytes_eq}
use Rattle.gq_lex.specs.Bytes.{is_digit}
use Rattle.gq_lex.specs.Numbers.{is_exponent_indicator, is_sign}
use Rattle.gq_meaning.specs.Values.{Text}

abbrev pub begins_zero : Text → Bool
begins_zero [] = false
begins_zero (b ∷ bs) = nat_eq b 48

abbrev pub are_digits : Text → Bool
are_digits s = not (nat_eq (length s) 0) && not (list_any (λ c. not (is_digit c)) s)

abbrev pub without_sign : Text → Text
without_sign [] = []
without_sign (b ∷ bs) = if is_sign b then bs else b ∷ bs

abbrev pub without_minus : Text → Text
without_minus [] = []
without_minus (b ∷ bs) = if nat_eq b 45 then bs else b ∷ bs

abbrev pub ends_in_exponent : Text → Bool
ends_in_exponent [] = true
ends_in_exponent (b ∷ bs) = is_exponent_indicator b && are_digits (without_sign bs)

abbrev pub ends_in_fraction : Text → Bool
ends_in_fraction [] = true
ends_in_fraction (b ∷ bs) = if nat_eq b 46 then nat_lt 0 (prefix_len is_digit bs) && ends_in_exponent (drop (prefix_len is_digit bs) bs) else ends_in_exponent (b ∷ bs)

-- an Int or a Float
abbrev pub is_unsigned : Text → Bool
is_unsigned s = nat_lt 0 (prefix_len is_digit s) && (nat_eq (prefix_len is_digit s) 1 || not (begins_zero s)) && ends_in_fraction (drop (prefix_len is_digit s) s)

abbrev pub is_number : Text → Bool
is_number s = is_unsigned (without_minus s)

-- an Int: digits of which the first is not 0, or 0
abbrev pub is_natural : Text → Bool
is_natural s = are_digits s && (nat_eq (length s) 1 || not (begins_zero s))

abbrev pub is_int : Text → Bool
is_int s = is_natural (without_minus s)

-- the decimal form of an Int
abbrev pub decimal : Text → Text
decimal s = if bytes_eq s (codes "-0") then codes "0" else s
