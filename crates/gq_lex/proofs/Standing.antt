-- The tokens of a text stand in it one behind another, and cut none of its characters.
use Rattle.std.proofs.Common.{◌≡◌, ℕ, ◌+◌, ◌-◌, ◌<◌, ◌≤◌, List, [], ◌∷◌, ◌++◌, length, take, drop, get_or, refl, sym, ap, subst, ◌∙◌, arith, append_assoc, length-append, add-zero, IsUtf8}
use Rattle.std.specs.List.{slice_range, All}
use Rattle.std.specs.Str.{IsCharBoundary}
use Rattle.std.proofs.lemmas.List.{take_at, drop_at, get_or-append-add, get_or_append_left}
use Rattle.std.proofs.lemmas.List.Elements.{All-nil, All-cons}
use Rattle.std.proofs.lemmas.Str.{IsCharBoundary-before_ascii, IsCharBoundary-after_ascii}
use Rattle.gq_lex.specs.Tokens.{Lexeme, lexeme_at, ReadsTo, here, ignored, token, Reads}
use Rattle.gq_lex.specs.Places.{StandIn, IsCutOf}
use Rattle.gq_lex.proofs.Edges.{Edges, token_edges}

-- tokens that stand from a place on stand from an earlier one on
pub stand_earlier : (text : List ℕ) (at to : ℕ) (tokens : List Lexeme) → at ≤ to → StandIn text to tokens → StandIn text at tokens
stand_earlier text at to [] h stand = omega arith
stand_earlier text at to (t ∷ ts) h stand = (omega (arith, stand.0), stand.1, stand.2, stand.3)

-- a part of a text is cut out of it at its place
cut_out : (whole before text part after : List ℕ) (at : ℕ) → whole ≡ before ++ text → length before ≡ at → text ≡ part ++ after → part ≡ slice_range whole at (at + length part)
cut_out whole before text part after at is long parts =
    let rest : drop at whole ≡ part ++ after = ap (drop at) is ∙ drop_at before text at long ∙ parts in
    let n : at + length part - at ≡ length part = omega arith in
    sym (ap (take (at + length part - at)) rest ∙ ap (λ k. take k (part ++ after)) n ∙ take_at part after (length part) refl)

-- what stands before the text behind a part
joined : (whole before text part after : List ℕ) → whole ≡ before ++ text → text ≡ part ++ after → whole ≡ (before ++ part) ++ after
joined whole before text part after is parts = is ∙ ap (λ l. before ++ l) parts ∙ sym (append_assoc before part after)

-- The tokens that are read from a place on stand from there on.
pub stand_from : {at : ℕ} {text rest : List ℕ} {tokens : List Lexeme} (whole before : List ℕ) → whole ≡ before ++ text → length before ≡ at → ReadsTo at text tokens rest → StandIn whole at tokens
stand_from {text = text} whole before is long here = omega (arith, ap length is, length-append before text)
stand_from {at} {text} {tokens = tokens} whole before is long (ignored part after parts h more) =
    stand_earlier whole at (at + length part) tokens (omega arith)
    (stand_from whole (before ++ part) (joined whole before text part after is parts) (length-append before part ∙ ap (λ n. n + length part) long) more)
stand_from {at} {text} whole before is long (token kind part after parts h more) = (
  omega arith,
  omega (arith, (token_edges h).some),
  cut_out whole before text part after at is long parts,
  stand_from whole (before ++ part) (joined whole before text part after is parts) (length-append before part ∙ ap (λ n. n + length part) long) more,
)

pub tokens_stand : (text : List ℕ) (tokens : List Lexeme) → Reads text tokens → StandIn text 0 tokens
tokens_stand text tokens reads = stand_from text [] refl refl reads

-- A part that begins and ends with ASCII cuts no character.
pub cut_of : (whole before text part after : List ℕ) (at : ℕ) → IsUtf8 whole → whole ≡ before ++ text → length before ≡ at → text ≡ part ++ after → Edges part → IsCharBoundary whole at × IsCharBoundary whole (at + length part)
cut_of whole before text part after at utf8 is long parts edges =
    let byte : (i : ℕ) → i < length part → get_or whole (at + i) 0 ≡ get_or part i 0 =
    λ i h. ap (λ l. get_or l (at + i) 0) (is ∙ ap (λ l. before ++ l) parts) ∙ ap (λ n. get_or (before ++ (part ++ after)) (n + i) 0) (sym long) ∙ get_or-append-add before (part ++ after) i 0 ∙ get_or_append_left part after 0 i h in
    let within : at + length part ≤ length whole = omega (arith, ap length is, length-append before text, ap length parts, length-append part after) in
    let first : get_or whole at 0 < 128 = omega (arith, edges.first, byte 0 edges.some, ap (λ n. get_or whole n 0) (add-zero at)) in
    let last : get_or whole (at + (length part - 1)) 0 < 128 = omega (arith, edges.some, edges.last, byte (length part - 1) (omega (arith, edges.some))) in
    let end : at + (length part - 1) + 1 ≡ at + length part = omega (arith, edges.some) in (
      IsCharBoundary-before_ascii whole at (omega (arith, edges.some)) first,
      subst (IsCharBoundary whole) end (IsCharBoundary-after_ascii whole (at + (length part - 1)) utf8 (omega (arith, edges.some)) last),
    )

-- The tokens that are read from a place on cut no character.
pub cut_from : {at : ℕ} {text rest : List ℕ} {tokens : List Lexeme} (whole before : List ℕ) → IsUtf8 whole → whole ≡ before ++ text → length before ≡ at → ReadsTo at text tokens rest → All (IsCutOf whole) tokens
cut_from whole before utf8 is long here = All-nil (IsCutOf whole)
cut_from {text = text} whole before utf8 is long (ignored part after parts h more) =
    cut_from whole (before ++ part) utf8 (joined whole before text part after is parts) (length-append before part ∙ ap (λ n. n + length part) long) more
cut_from {at} {text} whole before utf8 is long (token {tokens = tokens} kind part after parts h more) =
    All-cons (IsCutOf whole) (lexeme_at at kind part) tokens (cut_of whole before text part after at utf8 is long parts (token_edges h))
    (cut_from whole (before ++ part) utf8 (joined whole before text part after is parts) (length-append before part ∙ ap (λ n. n + length part) long) more)

pub tokens_cut_no_character : (text : List ℕ) (tokens : List Lexeme) → IsUtf8 text → Reads text tokens → All (IsCutOf text) tokens
tokens_cut_no_character text tokens utf8 reads = cut_from text [] utf8 refl refl reads
