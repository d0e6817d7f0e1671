-- A run of selections becomes a spread, and a new fragment at the end of the text holds it.
use Rattle.std.proofs.Common.{◌≡◌, ℕ, ◌+◌, ◌-◌, List, [], ◌∷◌, ◌++◌, length, drop, Bool, true, false, refl, sym, ap, subst, ◌∙◌, arith, append_assoc}
use Rattle.std.specs.Prelude.{codes, if◌then◌else◌}
use Rattle.std.specs.List.{slice_range}
use Rattle.std.proofs.lemmas.List.{append-nil, take_all, length-drop}
use Rattle.gq_text.specs.declared.place.Span.{Span}
use Rattle.gq_text.specs.Replaced.{replaced}
use Rattle.gq_lex.specs.declared.token.Kind.TheVariants as kind
use Rattle.gq_lex.specs.Bytes.{Stops, is_name_continue}
use Rattle.gq_lex.specs.Tokens.{Lexeme, ReadsTo, Reads}
use Rattle.gq_parse.specs.Grammar.{Tokens}
use Rattle.gq_laws.specs.Cutting.Extracted.{extracted}
use Rattle.gq_laws.specs.Cutting.Texts.{begins_with_name, spread_text, fragment_text}
use Rattle.gq_laws.proofs.Cutting.Reading.{Follows, line_follows, token_follows, ReadsLike, like_here, moved, and_then, like_followed, like_space}
use Rattle.gq_laws.proofs.Cutting.TextRuns.{from_start, RunIn, run_in, drop_of}
use Rattle.gq_laws.proofs.Cutting.Words.{lexeme, IsNameText, is_name_or_dots, dot_before, like_dots, like_name, like_sign, like_word_fragment, like_word_on, like_line}

-- their tokens
abbrev pub spread_tokens : List ℕ → Tokens
spread_tokens name = lexeme kind.Spread (codes "...") ∷ lexeme kind.Name name ∷ []

abbrev pub fragment_tokens : List ℕ → List ℕ → Tokens → Tokens
fragment_tokens name on run =
    lexeme kind.Name (codes "fragment") ∷ lexeme kind.Name name ∷ lexeme kind.Name (codes "on") ∷ lexeme kind.Name on
    ∷ lexeme kind.BraceOpen (codes "{") ∷ (run ++ lexeme kind.BraceClose (codes "}") ∷ [])

-- the text of the fragment, its parts bracketed from the right
abbrev fragment_parts : List ℕ → List ℕ → List ℕ → List ℕ
fragment_parts name on run = 10 ∷ 10 ∷ (codes "fragment" ++ 32 ∷ (name ++ 32 ∷ (codes "on" ++ 32 ∷ (on ++ 32 ∷ 123 ∷ 10 ∷ (run ++ codes "\n}\n")))))

parts_are : (name on run : List ℕ) → fragment_parts name on run ≡ fragment_text name on run
parts_are name on run = simp append_assoc

-- the text of the fragment reads as its tokens
pub fragment_reads : (name on own : List ℕ) (run : Tokens) → IsNameText name → IsNameText on →
    ReadsLike (own ++ codes "\n}\n") run (codes "\n}\n") → ReadsLike (fragment_text name on own) (fragment_tokens name on run) []
fragment_reads name on own run is_name is_on reads =
    subst (λ (l : List ℕ). ReadsLike l (fragment_tokens name on run) []) (parts_are name on own)
    (like_line (like_line (like_word_fragment (like_space (like_name name is_name refl (like_space (like_word_on (like_space
    (like_name on is_on refl (like_space (like_sign 123 kind.BraceOpen refl (like_line
    (and_then reads (like_line (like_sign 125 kind.BraceClose refl (like_line (like_here [])))))))))))))))))

-- behind the name of the spread comes a space where a Name would go on
space_by : (b : Bool) (tail others rest : List ℕ) (tokens : Tokens) → begins_with_name tail ≡ b → Stops is_name_continue others → ReadsLike (tail ++ others) tokens rest →
    Stops is_name_continue ((if b then 32 ∷ [] else []) ++ (tail ++ others)) × ReadsLike ((if b then 32 ∷ [] else []) ++ (tail ++ others)) tokens rest
space_by true tail others rest tokens e stops reads = (refl, like_space reads)
space_by false [] others rest tokens e stops reads = (stops, reads)
space_by false (b ∷ tail) others rest tokens e stops reads = (e, reads)

pub spread_reads : (name tail others rest : List ℕ) (tokens : Tokens) → IsNameText name → Stops is_name_continue others → ReadsLike (tail ++ others) tokens rest →
    ReadsLike (spread_text name tail ++ (tail ++ others)) (spread_tokens name ++ tokens) rest
spread_reads name tail others rest tokens is_name stops reads =
    let space = space_by (begins_with_name tail) tail others rest tokens refl stops reads in
    let all = like_dots (like_name name is_name space.0 space.1) in
    subst (λ (l : List ℕ). ReadsLike (46 ∷ 46 ∷ 46 ∷ l) (spread_tokens name ++ tokens) rest) (sym (append_assoc name (if begins_with_name tail then 32 ∷ [] else []) (tail ++ others))) all

five_parts : (a b c d e : List ℕ) → a ++ (b ++ (c ++ (d ++ e))) ≡ a ++ b ++ (c ++ d ++ e)
five_parts a b c d e = simp append_assoc

module _ (text : List ℕ) (place : Span) (front more others behind : Tokens) (first last : Lexeme) (name on : List ℕ)
    (reads : Reads text (front ++ (first ∷ (more ++ behind))))
    (run_is : first ∷ more ≡ others ++ last ∷ []) (starts : first.span.start ≡ place.start) (ends : last.span.end ≡ place.end)
    (selects : is_name_or_dots first.kind ≡ true) (is_name : IsNameText name) (is_on : IsNameText on) where
  r : RunIn text 0 front first (first ∷ more) last behind place.start place.end
  r = run_in text 0 place.start place.end front first last more others behind (from_start text (front ++ (first ∷ (more ++ behind))) reads) run_is starts ends

  abbrev tail : List ℕ
  tail = drop place.end text

  abbrev fragment : List ℕ
  fragment = fragment_text name on (slice_range text place.start place.end)

  abbrev fragment_signs : Tokens
  fragment_signs = fragment_tokens name on (first ∷ more)

  -- what the second replacement leaves
  to_end : slice_range text place.end (length text) ≡ tail
  to_end = take_all (length text - place.end) tail (omega (arith, length-drop place.end text))

  no_more : drop (length text) text ≡ []
  no_more = drop_of text text [] (length text) (sym (append-nil text)) refl

  fragment_is : ReadsLike fragment fragment_signs []
  fragment_is =
      fragment_reads name on (slice_range text place.start place.end) (first ∷ more) is_name is_on (r.own_reads (codes "\n}\n") (token_follows (codes "\n}\n")
      (line_follows tail (codes "}\n")).tokens r.ends))

  tail_reads : ReadsLike (tail ++ fragment) (behind ++ fragment_signs) []
  tail_reads =
      and_then (like_followed tail [] fragment (line_follows [] _) (moved (subst (λ (l : List ℕ). ReadsTo place.end l behind []) (sym (append-nil tail)) r.tail_reads.reads))) fragment_is

  all_reads : ReadsLike (slice_range text 0 place.start ++ (spread_text name tail ++ (tail ++ fragment))) (front ++ (spread_tokens name ++ (behind ++ fragment_signs))) []
  all_reads =
      let dots : Follows (drop place.start text) (spread_text name tail ++ (tail ++ fragment)) =
      subst (λ (l : List ℕ). Follows l (spread_text name tail ++ (tail ++ fragment))) (sym r.begins.1) (dot_before _ r.begins.2 selects) in
      and_then (r.front_reads (spread_text name tail ++ (tail ++ fragment)) dots) (spread_reads name tail fragment [] (behind ++ fragment_signs) is_name refl tail_reads)

  text_is : slice_range text 0 place.start ++ (spread_text name tail ++ (tail ++ fragment)) ≡ replaced (extracted text place name on) text
  text_is =
      ap (λ (l : List ℕ). slice_range text 0 place.start ++ (spread_text name tail ++ (tail ++ l))) (sym (append-nil fragment))
      ∙ ap (λ (l : List ℕ). slice_range text 0 place.start ++ (spread_text name tail ++ (l ++ (fragment ++ [])))) (sym to_end)
      ∙ ap (λ (l : List ℕ). slice_range text 0 place.start ++ (spread_text name tail ++ (slice_range text place.end (length text) ++ (fragment ++ l)))) (sym no_more)
      ∙ five_parts (slice_range text 0 place.start) (spread_text name tail) (slice_range text place.end (length text)) fragment (drop (length text) text)

  -- the text with the two replacements reads with a spread for the run, and with the run in a new fragment at the end
  pub extracted_reads : ReadsLike (replaced (extracted text place name on) text) (front ++ (spread_tokens name ++ (behind ++ fragment_tokens name on (first ∷ more)))) []
  extracted_reads = subst (λ (l : List ℕ). ReadsLike l (front ++ (spread_tokens name ++ (behind ++ fragment_signs))) []) text_is all_reads
