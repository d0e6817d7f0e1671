-- The place of tokens by indices.
use Rattle.std.proofs.Common.{◌≡◌, ℕ, ◌+◌, ◌-◌, ◌<◌, ◌≤◌, suc, zero, List, [], ◌∷◌, map, length, drop, take, refl, ap, sym, ◌∙◌, arith, length-drop}
use Rattle.std.proofs.Math.ListN.{get_or}
use Rattle.std.proofs.lemmas.List.{get_or-drop, length-map, drop_more}
use Rattle.gq_text.specs.declared.place.Span.{Span}
use Rattle.gq_lex.specs.declared.token.Token.{Token}
use Rattle.gq_lex.specs.Tokens.{Lexeme, lexeme_of}
use Rattle.gq_parse.specs.Grammar.{Tokens, starts, ends, covered}
use Rattle.gq_parse.specs.Helping.From.{from}

ends_take : (ts : Tokens) (k : ℕ) (d : Lexeme) → k < length ts → ends (take (suc k) ts) ≡ (get_or ts k d).span.end
ends_take [] k d h = absurd (omega (arith, h))
ends_take (t ∷ []) zero d h = refl
ends_take (t ∷ u ∷ ts) zero d h = refl
ends_take (t ∷ []) (suc k) d h = absurd (omega (arith, h))
ends_take (t ∷ u ∷ ts) (suc k) d h = ends_take (u ∷ ts) k d (omega (arith, h))

get_or_lexeme : (ts : List Token) (k : ℕ) (d : Token) → get_or (map lexeme_of ts) k (lexeme_of d) ≡ lexeme_of (get_or ts k d)
get_or_lexeme [] k d = refl
get_or_lexeme (t ∷ ts) zero d = refl
get_or_lexeme (t ∷ ts) (suc k) d = get_or_lexeme ts k d

starts_from : (tokens : List Token) (at : ℕ) (d : Token) → at < length tokens → starts (from tokens at) ≡ (get_or tokens at d).span.start
starts_from tokens at d h = ap (λ (ts : List Token). starts (map lexeme_of ts)) (drop_more tokens at d h)

ends_from : (tokens : List Token) (at end : ℕ) (d : Token) → at < end → end ≤ length tokens → ends (take (length (from tokens at) - length (from tokens end)) (from tokens at)) ≡ (get_or tokens (end - 1) d).span.end
ends_from tokens at end d lt le =
    let k = end - at - 1 in
    let many : length (from tokens at) - length (from tokens end) ≡ suc k = omega (arith, lt, le, length-map (drop at tokens) lexeme_of, length-map (drop end tokens) lexeme_of, length-drop at tokens, length-drop end tokens) in
    let within : k < length (from tokens at) = omega (arith, lt, le, length-map (drop at tokens) lexeme_of, length-drop at tokens) in
    let last : at + k ≡ end - 1 = omega (arith, lt) in
    ap (λ (n : ℕ). ends (take n (from tokens at))) many ∙ ends_take (from tokens at) k (lexeme_of d) within
    ∙ ap (λ (t : Lexeme). t.span.end) (get_or_lexeme (drop at tokens) k d ∙ ap lexeme_of (get_or-drop at tokens k d ∙ ap (λ (n : ℕ). get_or tokens n d) last))

pub covered_from : (tokens : List Token) (at end : ℕ) (d : Token) → at < end → end ≤ length tokens →
    ◌≡◌ {A = Span} (record { start = (get_or tokens at d).span.start; end = (get_or tokens (end - 1) d).span.end }) (covered (from tokens at) (from tokens end))
covered_from tokens at end d lt le =
    let first = starts_from tokens at d (omega (arith, lt, le)) in
    let last = ends_from tokens at end d lt le in
    let S : ℕ → ℕ → Span = λ s e. record { start = s; end = e } in
    sym (ap (λ (s : ℕ). S s (ends (take (length (from tokens at) - length (from tokens end)) (from tokens at)))) first ∙ ap (λ (e : ℕ). S (get_or tokens at d).span.start e) last)
