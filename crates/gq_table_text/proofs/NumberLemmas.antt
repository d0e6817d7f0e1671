-- Integers in digits alone.
use Rattle.std.proofs.Common.{◌≡◌, ◌<◌, ◌≤◌, ◌^◌, ℕ, ℤ, List, Bool, true, false, drop, get_or, length, decimal, Some, sym, ◌∙◌, ap, subst, arith}
use Rattle.std.specs.Prelude.{slice_index, if◌then◌else◌, option_map}
use Rattle.std.specs.Str.Parse.{AllDigits, digits_value, digits_value_after}
use Rattle.std.proofs.lemmas.Bool.{eq-eqb}
use Rattle.std.proofs.lemmas.Fmt.{decimal-digits_value}
use Rattle.std.proofs.lemmas.List.{drop_all}
use Rattle.std.proofs.lemmas.Str.Parse.{numerals_by_value, tells_digits}
use Rattle.json.specs.Json as seen
use Rattle.fast_float.specs.Text.{scan, minus}
use Rattle.serde_json.specs.Data.{negative, number}
use Rattle.serde_json.specs.Read.{number_from, number_of, of_json}
use Rattle.serde_json.proofs.Numbers.{number_of-decimal}
use Rattle.gq_table_text.specs.Helping.ReadAs.{IsNatural}

-- digits without a leading zero are how the number that they make is written
pub spelled : (bytes text : List ℕ) (n at : ℕ) → bytes ≡ text → 0 < length bytes → (get_or bytes 0 0 ≡ 48 → length bytes ≡ 1) → length bytes ≤ at →
    (digits_value_after 10 n (drop at bytes) ≡ digits_value 10 bytes) × (AllDigits 10 (drop at bytes) → AllDigits 10 bytes) → n < 2 ^ 64 → text ≡ decimal n
spelled bytes text n at same some alone end h low =
    let none = drop_all at bytes end in
    let digits = h.1 (subst (AllDigits 10) (sym none) tt) in
    let value : n ≡ digits_value 10 bytes = sym (ap (digits_value_after 10 n) none) ∙ h.0 in
    sym same ∙ sym (decimal-digits_value (numerals_by_value _ tells_digits) bytes digits some alone (subst (λ (m : ℕ). m < 2 ^ 64) value low)) ∙ ap decimal (sym value)

pub natural_seen : (text : List ℕ) (n : ℕ) → text ≡ decimal n → n < 2 ^ 63 → IsNatural (seen.number text) n
natural_seen text n is low = record { is = ap (option_map number) (ap number_of is ∙ number_of-decimal n (omega (arith, low))); low = low }

number_below : (s : List ℕ) (z : ℤ) → get_or s 0 0 ≡ 45 → number_from true (scan (drop 1 s)) ≡ Some (negative z) → number_of s ≡ Some (negative z)
unfolding number_of
number_below s z first is = ap (λ (b : Bool). if b then number_from true (scan (drop 1 s)) else number_from false (scan s)) (eq-eqb (slice_index s 0) minus first) ∙ is

pub negative_seen : (bytes text : List ℕ) (z : ℤ) → bytes ≡ text → get_or bytes 0 0 ≡ 45 → number_from true (scan (drop 1 bytes)) ≡ Some (negative z) →
    of_json (seen.number text) ≡ Some (number (negative z))
negative_seen bytes text z same first is = ap (option_map number) (ap number_of (sym same) ∙ number_below bytes z first is)
