-- The tokens of a text begin and end where the position of the place leads back to it.
use Rattle.std.proofs.Common.{◌≡◌, ℕ, ◌+◌, ◌-◌, ◌<◌, List, [], ◌∷◌, length, get_or, drop, refl, sym, ap, ◌∙◌, arith, add-zero, IsUtf8}
use Rattle.std.specs.List.{AllByRecursion, slice_range}
use Rattle.std.proofs.lemmas.List.{get_or-drop, get_or-take}
use Rattle.std.proofs.lemmas.List.Elements.{recursion_from_All}
use Rattle.gq_lex.specs.Places.{StandIn, IsCutOf}
use Rattle.gq_lex.specs.Tokens.{Lexeme, ReadsTo, here, ignored, token, Reads}
use Rattle.gq_lex.proofs.Standing.{tokens_stand, tokens_cut_no_character}
use Rattle.gq_rename.proofs.Solid.{IsSolid, token_solid}
use Rattle.gq_rename.proofs.Whole.{IsWhole}

-- a token between two such places
abbrev pub IsWholeToken : List ℕ → Lexeme → Type 0
IsWholeToken text t = IsWhole text t.span.start × IsWhole text t.span.end

abbrev IsSpelledSolid : Lexeme → Type 0
IsSpelledSolid t = IsSolid t.text × (t.span.end ≡ t.span.start + length t.text)

spelled_solid : {at : ℕ} {text rest : List ℕ} {tokens : List Lexeme} → ReadsTo at text tokens rest → AllByRecursion IsSpelledSolid tokens
spelled_solid here = tt
spelled_solid (ignored part after e i more) = spelled_solid more
spelled_solid (token kind part after e i more) = ((token_solid i, refl), spelled_solid more)

-- a byte of a token, as one of the text
byte_at : (text part : List ℕ) (start end i : ℕ) → part ≡ slice_range text start end → i < end - start → get_or text (start + i) 0 ≡ get_or part i 0
byte_at text part start end i is within = sym (get_or-drop start text i 0) ∙ sym (get_or-take (end - start) (drop start text) i 0 within) ∙ ap (λ l. get_or l i 0) (sym is)

whole_token : (text : List ℕ) (t : Lexeme) → IsCutOf text t → IsSpelledSolid t → t.text ≡ slice_range text t.span.start t.span.end → IsWholeToken text t
whole_token text t cut s is =
    let some = s.0.some in
    let size = s.1 in
    let starts = byte_at text t.text t.span.start t.span.end 0 is (omega (arith, some, size)) in
    let ends = byte_at text t.text t.span.start t.span.end (length t.text - 1) is (omega (arith, some, size)) in
    let first : 32 < get_or text t.span.start 0 = omega (arith, s.0.first, starts, ap (λ n. get_or text n 0) (add-zero t.span.start)) in
    let place : t.span.start + (length t.text - 1) ≡ t.span.end - 1 = omega (arith, some, size) in
    let last : 32 < get_or text (t.span.end - 1) 0 = omega (arith, s.0.last, ends, ap (λ n. get_or text n 0) place) in (
      record { boundary = cut.0; unsplit = λ feed return. omega (arith, first, feed) },
      record { boundary = cut.1; unsplit = λ feed return. omega (arith, last, return) },
    )

whole_all : (text : List ℕ) (at : ℕ) (tokens : List Lexeme) → StandIn text at tokens → AllByRecursion (IsCutOf text) tokens → AllByRecursion IsSpelledSolid tokens → AllByRecursion (IsWholeToken text) tokens
whole_all text at [] stand cut solid = tt
whole_all text at (t ∷ tokens) stand cut solid = (whole_token text t cut.0 solid.0 stand.2, whole_all text t.span.end tokens stand.3 cut.1 solid.1)

pub tokens_whole : (text : List ℕ) (tokens : List Lexeme) → IsUtf8 text → Reads text tokens → AllByRecursion (IsWholeToken text) tokens
tokens_whole text tokens utf8 reads =
    whole_all text 0 tokens (tokens_stand text tokens reads) (recursion_from_All (IsCutOf text) tokens (tokens_cut_no_character text tokens utf8 reads)) (spelled_solid reads)
