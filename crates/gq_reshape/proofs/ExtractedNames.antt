-- The name of a new fragment is spelled as one: letters, and digits behind them.
use Rattle.std.proofs.Common.{◌≡◌, ℕ, zero, suc, ◌+◌, ◌<◌, ◌%◌, ◌/◌, Bool, true, false, List, [], ◌∷◌, refl, sym, ap, ◌∙◌, subst, arith}
use Rattle.std.specs.Prelude.{◌&&◌, ◌==◌, if◌then◌else◌, decimal}
use Rattle.std.specs.List.{list_all}
use Rattle.core.specs.Fmt.{digit_glyph, digits_onto}
use Rattle.core.proofs.fmt.DigitsParse.{digits_onto-nil, digit_glyph_below_ten}
use Rattle.gq_lex.specs.Bytes.{is_name_continue}
use Rattle.gq_renamed.specs.Names.{IsFragmentNameText}
use Rattle.gq_renamed.proofs.Spellings.{spelled_as_name}
use Rattle.gq_reshape.specs.Naming.{extracted_name}

abbrev AllContinue : List ℕ → Type 0
AllContinue bs = list_all is_name_continue bs ≡ true

digit_continues : (d : ℕ) → d < 10 → is_name_continue (48 + d) ≡ true
digit_continues zero small = refl
digit_continues (suc zero) small = refl
digit_continues (suc (suc zero)) small = refl
digit_continues (suc (suc (suc zero))) small = refl
digit_continues (suc (suc (suc (suc zero)))) small = refl
digit_continues (suc (suc (suc (suc (suc zero))))) small = refl
digit_continues (suc (suc (suc (suc (suc (suc zero)))))) small = refl
digit_continues (suc (suc (suc (suc (suc (suc (suc zero))))))) small = refl
digit_continues (suc (suc (suc (suc (suc (suc (suc (suc zero)))))))) small = refl
digit_continues (suc (suc (suc (suc (suc (suc (suc (suc (suc zero))))))))) small = refl
digit_continues (suc (suc (suc (suc (suc (suc (suc (suc (suc (suc d)))))))))) small = absurd (omega (arith, small))

-- however many digits are taken
digits_continue : (k n : ℕ) (behind : List ℕ) → AllContinue behind → AllContinue (digits_onto k 10 false n behind)
digits_continue zero n behind h = h
digits_continue (suc k) n behind h = by (n / 10 == 0) more (digits_continue k (n / 10) (digit_glyph false (n % 10) ∷ behind) more)
  where
    one : is_name_continue (digit_glyph false (n % 10)) ≡ true
    one =
        let small : n % 10 < 10 = omega arith in
        ap is_name_continue (sym (digit_glyph_below_ten false (n % 10) (48 + n % 10) small refl)) ∙ digit_continues (n % 10) small

    more : AllContinue (digit_glyph false (n % 10) ∷ behind)
    more = ap (λ (b : Bool). b && list_all is_name_continue behind) one ∙ h

    by : (b : Bool) → AllContinue (digit_glyph false (n % 10) ∷ behind) → AllContinue (digits_onto k 10 false (n / 10) (digit_glyph false (n % 10) ∷ behind)) →
        AllContinue (if b then digit_glyph false (n % 10) ∷ behind else digits_onto k 10 false (n / 10) (digit_glyph false (n % 10) ∷ behind))
    by true here later = here
    by false here later = later

decimal_continues : (n : ℕ) → AllContinue (decimal n)
decimal_continues n = subst AllContinue (digits_onto-nil 10 false n) (digits_continue 64 n [] refl)

-- a text that begins with another letter
first_of : List ℕ → ℕ
first_of [] = 0
first_of (b ∷ bs) = b

pub extracted_is_name : (n : ℕ) → IsFragmentNameText (extracted_name n)
unfolding first_of
extracted_is_name n = record {
  is_name = (spelled_as_name (extracted_name n)).0 (decimal_continues n);
  not_on = λ e. let f : 69 ≡ 111 = ap first_of e in omega (arith, f);
}
