-- A spread becomes an inline fragment with what its fragment selects, and a definition goes.
use Rattle.std.proofs.Common.{◌≡◌, ℕ, ◌+◌, List, [], ◌∷◌, ◌++◌, drop, true, refl, sym, ap, subst, append_assoc}
use Rattle.std.specs.Prelude.{codes}
use Rattle.std.specs.List.{slice_range}
use Rattle.gq_text.specs.declared.place.Span.{Span}
use Rattle.gq_text.specs.declared.replacement.Replacement.{Replacement}
use Rattle.gq_text.specs.Replaced.{replaced_from}
use Rattle.gq_lex.specs.declared.token.Kind.TheVariants as kind
use Rattle.gq_lex.specs.Bytes.{Stops, is_name_continue}
use Rattle.gq_lex.specs.Tokens.{Lexeme, ReadsTo}
use Rattle.gq_parse.specs.Grammar.{Tokens}
use Rattle.gq_laws.specs.Cutting.Inlined.{gone}
use Rattle.gq_laws.proofs.Cutting.Reading.{Follows, space_follows_token, token_follows, EndsUnquoted, followed_unquoted, ReadsLike, like_here, moved, and_then, like_space}
use Rattle.gq_laws.proofs.Cutting.TextRuns.{RunIn}
use Rattle.gq_laws.proofs.Cutting.Words.{lexeme, IsNameText, is_name_or_dots, is_name_kind, is_brace, dot_before, brace_before, Named, named, like_dots, like_name, like_word_on}

-- what takes the place of a spread, with the text of its directives, and of its fragment's set
abbrev pub inlined_text : List ℕ → List ℕ → List ℕ → List ℕ
inlined_text on directives set = codes "...on " ++ on ++ directives ++ 32 ∷ set

abbrev pub inlined_tokens : List ℕ → Tokens → Tokens → Tokens
inlined_tokens on directives set = lexeme kind.Spread (codes "...") ∷ lexeme kind.Name (codes "on") ∷ lexeme kind.Name on ∷ (directives ++ set)

-- A text before a space that reads as these directives: none, or a space and their run.
pub record AreDirectives (directives : Tokens) (part : List ℕ) : Type 0 where
  pub stops : (new : List ℕ) → Stops is_name_continue (part ++ 32 ∷ new)
  pub reads : (new : List ℕ) → ReadsLike (part ++ 32 ∷ new) directives (32 ∷ new)

pub no_directives : AreDirectives [] []
no_directives = record { stops = λ new. refl; reads = λ new. like_here (32 ∷ new) }

pub some_directives : {text : List ℕ} {at from to : ℕ} {before run behind : Tokens} {first last : Lexeme} → RunIn text at before first run last behind from to →
    AreDirectives run (32 ∷ slice_range text from to)
some_directives {text} {to = to} r = record {
  stops = λ new. refl;
  reads = λ new. like_space (r.own_reads (32 ∷ new) (token_follows (32 ∷ new) (space_follows_token (drop to text) new) r.ends));
}

parts_are : (on directives set rest : List ℕ) → 46 ∷ 46 ∷ 46 ∷ (codes "on" ++ 32 ∷ (on ++ (directives ++ 32 ∷ (set ++ rest)))) ≡ inlined_text on directives set ++ rest
parts_are on directives set rest = simp append_assoc

-- a spread is inlined, before whatever reads as the others
pub inlined_before : {text home : List ℕ} {at from to home_at home_from home_to : ℕ} {before run behind home_before set home_behind : Tokens} {first last brace closing : Lexeme} →
    (on : List ℕ) (directives : Tokens) (part rest : List ℕ) (others : Tokens) → RunIn text at before first run last behind from to → is_name_or_dots first.kind ≡ true →
    RunIn home home_at home_before brace set closing home_behind home_from home_to → is_brace closing.kind ≡ true → IsNameText on → AreDirectives directives part → ReadsLike rest others [] →
    ReadsLike (slice_range text at from ++ (inlined_text on part (slice_range home home_from home_to) ++ rest)) (before ++ (inlined_tokens on directives set ++ others)) []
inlined_before {text} {home} {at} {from} {home_from = home_from} {home_to} {before} {set = set} on directives part rest others r dots h closes is_on d reads =
    let own : List ℕ = slice_range home home_from home_to in
    let of_set : ReadsLike (own ++ rest) (set ++ others) [] = and_then (h.own_reads rest (brace_before rest h.ends closes)) reads in
    let of_all : ReadsLike (part ++ 32 ∷ (own ++ rest)) (directives ++ (set ++ others)) [] = and_then (d.reads (own ++ rest)) (like_space of_set) in
    let whole = like_dots (like_word_on (like_space (like_name on is_on (d.stops (own ++ rest)) of_all))) in
    let tokens_same : inlined_tokens on directives (set ++ others) ≡ inlined_tokens on directives set ++ others =
    ap (λ (l : Tokens). lexeme kind.Spread (codes "...") ∷ lexeme kind.Name (codes "on") ∷ lexeme kind.Name on ∷ l) (sym (append_assoc directives set others)) in
    let inside : ReadsLike (inlined_text on part own ++ rest) (inlined_tokens on directives set ++ others) [] =
    subst (λ (l : List ℕ). ReadsLike l (inlined_tokens on directives set ++ others) []) (parts_are on part own rest)
    (subst (λ (l : Tokens). ReadsLike (46 ∷ 46 ∷ 46 ∷ (codes "on" ++ 32 ∷ (on ++ (part ++ 32 ∷ (own ++ rest))))) l []) tokens_same whole) in
    let begins : Follows (drop from text) (inlined_text on part own ++ rest) = subst (λ (l : List ℕ). Follows l (inlined_text on part own ++ rest)) (sym r.begins.1) (dot_before _ r.begins.2 dots) in
    and_then (r.front_reads (inlined_text on part own ++ rest) begins) inside

-- a definition goes, before whatever reads as the others
pub dropped_before : {text : List ℕ} {at from to : ℕ} {before run behind : Tokens} {first last : Lexeme} (rest : List ℕ) (others : Tokens) → RunIn text at before first run last behind from to →
    is_name_kind first.kind ≡ true → EndsUnquoted before →
    ReadsLike rest others [] → ReadsLike (slice_range text at from ++ rest) (before ++ others) []
dropped_before {text} {at} {from} {before = before} rest others r is_name unquoted reads =
    let n : Named (drop from text) = named r.begins.0 r.begins.1 r.begins.2 is_name in
    let front = subst (λ (l : List ℕ). ReadsTo at (slice_range text at from ++ l) before l) n.is r.front_to in
    and_then (moved (followed_unquoted (slice_range text at from) n.byte n.others rest n.starts unquoted front)) reads

-- ---- the edited texts

abbrev pub inlined : (place : Span) (on part set : List ℕ) → Replacement
inlined place on part set = record { span = place; text = inlined_text on part set }

one_edit : (a b c : List ℕ) → a ++ (b ++ c) ≡ a ++ b ++ c
one_edit a b c = simp append_assoc

no_text : (a c : List ℕ) → a ++ c ≡ a ++ [] ++ c
no_text a c = simp append_assoc

module _ (text home : List ℕ) (place braces : Span) (on part : List ℕ) (directives front run behind set : Tokens)
    (first last brace closing : Lexeme) {home_before home_behind : Tokens} {home_at at : ℕ}
    (r : RunIn text at front first run last behind place.start place.end) (dots : is_name_or_dots first.kind ≡ true)
    (h : RunIn home home_at home_before brace set closing home_behind braces.start braces.end) (closes : is_brace closing.kind ≡ true)
    (is_on : IsNameText on) (d : AreDirectives directives part) where
  abbrev own : List ℕ
  own = slice_range home braces.start braces.end

  -- from a place on, before other replacements
  pub inlined_from : (rs : List Replacement) (others : Tokens) → ReadsLike (replaced_from place.end rs text) others [] →
      ReadsLike (replaced_from at (inlined place on part (slice_range home braces.start braces.end) ∷ rs) text) (front ++ (inlined_tokens on directives set ++ others)) []
  inlined_from rs others reads =
      subst (λ (l : List ℕ). ReadsLike l (front ++ (inlined_tokens on directives set ++ others)) [])
      (one_edit (slice_range text at place.start) (inlined_text on part own) (replaced_from place.end rs text))
      (inlined_before on directives part (replaced_from place.end rs text) others r dots h closes is_on d reads)

  -- the text reads with an inline fragment in the place of the spread
  pub inlined_reads : ReadsLike (replaced_from at (inlined place on part (slice_range home braces.start braces.end) ∷ []) text) (front ++ (inlined_tokens on directives set ++ behind)) []
  inlined_reads = inlined_from [] behind (moved r.tail_reads.reads)

module _ (text : List ℕ) (place : Span) (front run behind : Tokens) (first last : Lexeme) {at : ℕ}
    (r : RunIn text at front first run last behind place.start place.end) (is_name : is_name_kind first.kind ≡ true) (unquoted : EndsUnquoted front) where
  pub gone_from : (rs : List Replacement) (others : Tokens) → ReadsLike (replaced_from place.end rs text) others [] → ReadsLike (replaced_from at (gone place ∷ rs) text) (front ++ others) []
  gone_from rs others reads =
      subst (λ (l : List ℕ). ReadsLike l (front ++ others) []) (no_text (slice_range text at place.start) (replaced_from place.end rs text))
      (dropped_before (replaced_from place.end rs text) others r is_name unquoted reads)

  -- the text reads without the definition
  pub gone_reads : ReadsLike (replaced_from at (gone place ∷ []) text) (front ++ behind) []
  gone_reads = gone_from [] behind (moved r.tail_reads.reads)
