-- Readings of texts: cut at a token, begun at another place, before another text, one behind another.
use Rattle.std.proofs.Common.{◌≡◌, ℕ, ◌+◌, ◌-◌, ◌<◌, List, [], ◌∷◌, ◌++◌, length, true, refl, sym, ap, subst, ◌∙◌, arith, append_assoc, length-append}
use Rattle.std.proofs.lemmas.Bool.Decides.{nat_tests}
use Rattle.std.proofs.lemmas.List.{append-nil}
use Rattle.gq_lex.specs.declared.token.Kind.{Kind}
use Rattle.gq_lex.specs.declared.token.Kind.TheVariants as kind
use Rattle.gq_lex.specs.Bytes.{Stops, is_comment_byte, is_name_start, is_name_continue, punctuators}
use Rattle.gq_lex.specs.Numbers.{is_non_zero_digit, IsIntegerPart, zero as int_zero, negative_zero, digits, negative_digits, with_fraction, with_exponent, with_both, is_number_continue}
use Rattle.gq_lex.specs.Strings.{is_quote}
use Rattle.gq_lex.specs.Tokens.{IsIgnored, unicode_bom, white_space, line_terminator, comment, comma, IsToken, sign, spread, name, int, float, empty_string, string, block_string, Lexeme}
use Rattle.gq_lex.specs.Tokens.{lexeme_at, ReadsTo, here, ignored, token}
use Rattle.gq_lex.proofs.Readings.{same_part, more_token, rest_within}
use Rattle.gq_lex.proofs.Runs.{found_holds}
use Rattle.gq_parse.specs.Grammar.{Tokens}
use Rattle.gq_lex.proofs.Edges.{token_edges}
use Rattle.gq_laws.proofs.Cutting.Alike.{AreAlike}
use Rattle.gq_laws.proofs.Cutting.Likeness.{alike_append, alike_trans}

-- ---- up to a token

pub nothing_ends : {X : Type 0} (xs ys : List X) (x : X) → [] ≡ xs ++ x ∷ ys → ⊥
nothing_ends [] ys x e = cc
nothing_ends (y ∷ xs) ys x e = cc

-- A reading cut at one of its tokens: what is ignored before that token belongs to the front.
pub record UpTo (at : ℕ) (text : List ℕ) (before : Tokens) (t : Lexeme) (after : Tokens) (rest : List ℕ) : Type 0 where
  pub front : List ℕ
  pub behind : List ℕ
  pub cut : text ≡ front ++ (t.text ++ behind)
  pub starts : at + length front ≡ t.span.start
  pub ends : t.span.start + length t.text ≡ t.span.end
  pub first : ReadsTo at text before (t.text ++ behind)
  pub own : IsToken t.kind t.text behind
  pub second : ReadsTo t.span.end behind after rest

pub up_to : {at : ℕ} {text rest : List ℕ} {all : Tokens} (before : Tokens) (t : Lexeme) (after : Tokens) → ReadsTo at text all rest → all ≡ before ++ t ∷ after → UpTo at text before t after rest
up_to before t after here is = absurd (nothing_ends before after t is)
up_to {at} before t after (ignored part others cut h more) is =
    let r = up_to before t after more is in
    record {
      front = part ++ r.front;
      behind = r.behind;
      cut = cut ∙ ap (λ (l : List ℕ). part ++ l) r.cut ∙ sym (append_assoc part r.front (t.text ++ r.behind));
      starts = omega (arith, length-append part r.front, r.starts);
      ends = r.ends;
      first = ignored part others cut h r.first;
      own = r.own;
      second = r.second;
    }
up_to {at} {text} {rest} [] t after (token {tokens = ts} kind part others cut h more) is =
    let head : lexeme_at at kind part ≡ t = cc in
    let tail : ts ≡ after = cc in
    let P : Lexeme → Type 0 = λ x. UpTo at text [] x after rest in
    subst P head (record {
      front = [];
      behind = others;
      cut = cut;
      starts = omega arith;
      ends = refl;
      first = subst (λ (l : List ℕ). ReadsTo at text [] l) cut here;
      own = h;
      second = subst (λ (l : Tokens). ReadsTo (at + length part) others l rest) tail more;
    })
up_to {at} {text} {rest} (b ∷ before) t after (token {tokens = ts} kind part others cut h more) is =
    let head : lexeme_at at kind part ≡ b = cc in
    let tail : ts ≡ before ++ t ∷ after = cc in
    let r = up_to before t after more tail in
    let P : Lexeme → Type 0 = λ x. UpTo at text (x ∷ before) t after rest in
    subst P head (record {
      front = part ++ r.front;
      behind = r.behind;
      cut = cut ∙ ap (λ (l : List ℕ). part ++ l) r.cut ∙ sym (append_assoc part r.front (t.text ++ r.behind));
      starts = omega (arith, length-append part r.front, r.starts);
      ends = r.ends;
      first = token kind part others cut h r.first;
      own = r.own;
      second = r.second;
    })

lexeme_is : (t : Lexeme) → t.span.start + length t.text ≡ t.span.end → lexeme_at t.span.start t.kind t.text ≡ t
lexeme_is t ends = ap (λ (n : ℕ). record { kind = t.kind; text = t.text; span = record { start = t.span.start; end = n } }) ends

-- ---- what may follow

-- Behind a token: where a Name, a number or an empty string ends before the first text, it does so before the second.
pub record FollowsToken (old new : List ℕ) : Type 0 where
  pub name : Stops is_name_continue old → Stops is_name_continue new
  pub number : Stops is_number_continue old → Stops is_number_continue new
  pub quote : Stops is_quote old → Stops is_quote new

-- and behind anything: so does a comment
pub record Follows (old new : List ℕ) : Type 0 where
  pub comments : Stops is_comment_byte old → Stops is_comment_byte new
  pub tokens : FollowsToken old new

pub ignored_follows : {part old : List ℕ} (new : List ℕ) → Follows old new → IsIgnored part old → IsIgnored part new
ignored_follows new f unicode_bom = unicode_bom
ignored_follows new f (white_space e) = white_space e
ignored_follows new f (line_terminator e) = line_terminator e
ignored_follows new f (comment passes ends) = comment passes (f.comments ends)
ignored_follows new f comma = comma

pub token_follows : {k : Kind} {part old : List ℕ} (new : List ℕ) → FollowsToken old new → IsToken k part old → IsToken k part new
token_follows new f (sign e) = sign e
token_follows new f spread = spread
token_follows new f (name s p e) = name s p (f.name e)
token_follows new f (int integer e) = int integer (f.number e)
token_follows new f (float number e) = float number (f.number e)
token_follows new f (empty_string e) = empty_string (f.quote e)
token_follows new f (string body value is some characters) = string body value is some characters
token_follows new f (block_string body) = block_string body

-- the same first byte
pub same_follows : (b : ℕ) (old new : List ℕ) → Follows (b ∷ old) (b ∷ new)
same_follows b old new = record { comments = λ e. e; tokens = record { name = λ e. e; number = λ e. e; quote = λ e. e } }

-- a New Line
pub line_follows : (old new : List ℕ) → Follows old (10 ∷ new)
line_follows old new = record { comments = λ e. refl; tokens = record { name = λ e. refl; number = λ e. refl; quote = λ e. refl } }

-- a space
pub space_follows_token : (old new : List ℕ) → FollowsToken old (32 ∷ new)
space_follows_token old new = record { name = λ e. refl; number = λ e. refl; quote = λ e. refl }

pub space_follows : (b : ℕ) (old new : List ℕ) → is_comment_byte b ≡ true → Follows (b ∷ old) (32 ∷ new)
space_follows b old new h = record { comments = λ e. absurd (let f = sym h ∙ e in cc); tokens = space_follows_token (b ∷ old) new }

-- a dot, in the place of a dot or of a letter
pub dot_follows : (b : ℕ) (old new : List ℕ) → is_comment_byte b ≡ true → is_number_continue b ≡ true → Follows (b ∷ old) (46 ∷ new)
dot_follows b old new h k = record {
  comments = λ e. absurd (let f = sym h ∙ e in cc);
  tokens = record { name = λ e. refl; number = λ e. absurd (let f = sym k ∙ e in cc); quote = λ e. refl };
}

-- behind the same front
front_follows : (front old new : List ℕ) → Follows old new → Follows (front ++ old) (front ++ new)
front_follows [] old new f = f
front_follows (b ∷ front) old new f = same_follows b (front ++ old) (front ++ new)

-- ---- before another text

record Before (at : ℕ) (text : List ℕ) (tokens : Tokens) (rest new : List ℕ) : Type 0 where
  front : List ℕ
  cut : text ≡ front ++ rest
  reads : ReadsTo at (front ++ new) tokens new

before : {at : ℕ} {text rest : List ℕ} {tokens : Tokens} (new : List ℕ) → Follows rest new → ReadsTo at text tokens rest → Before at text tokens rest new
before new f here = record { front = []; cut = refl; reads = here }
before {rest = rest} new f (ignored part after cut h more) =
    let b = before new f more in
    record {
      front = part ++ b.front;
      cut = cut ∙ ap (λ (l : List ℕ). part ++ l) b.cut ∙ sym (append_assoc part b.front rest);
      reads = ignored part (b.front ++ new) (append_assoc part b.front new) (ignored_follows (b.front ++ new) (front_follows b.front rest new f) (subst (IsIgnored part) b.cut h)) b.reads;
    }
before {rest = rest} new f (token kind part after cut h more) =
    let b = before new f more in
    record {
      front = part ++ b.front;
      cut = cut ∙ ap (λ (l : List ℕ). part ++ l) b.cut ∙ sym (append_assoc part b.front rest);
      reads = token kind part (b.front ++ new) (append_assoc part b.front new) (token_follows (b.front ++ new) (front_follows b.front rest new f).tokens (subst (IsToken kind part) b.cut h)) b.reads;
    }

same_front : (front other rest : List ℕ) → front ++ rest ≡ other ++ rest → front ≡ other
same_front front other rest e = same_part (front ++ rest) front rest other rest refl e (omega (arith, ap length e, length-append front rest, length-append other rest))

-- a text that is read up to a rest is so read before another rest
pub followed : {at : ℕ} {tokens : Tokens} (front old new : List ℕ) → Follows old new → ReadsTo at (front ++ old) tokens old → ReadsTo at (front ++ new) tokens new
followed {at} {tokens} front old new f reads =
    let b = before new f reads in
    subst (λ (l : List ℕ). ReadsTo at (l ++ new) tokens new) (sym (same_front front b.front old b.cut)) b.reads

-- behind the same part with some bytes
some_follows : (part old new : List ℕ) → 0 < length part → Follows (part ++ old) (part ++ new)
some_follows [] old new some = absurd (omega (arith, some))
some_follows (b ∷ part) old new some = same_follows b (part ++ old) (part ++ new)

-- up to a token and with it, before another text before which that token may end
pub through_again : {at : ℕ} {text rest : List ℕ} {before after : Tokens} {t : Lexeme} (u : UpTo at text before t after rest) (new : List ℕ) → IsToken t.kind t.text new →
    ReadsTo at (u.front ++ (t.text ++ new)) (before ++ t ∷ []) new
through_again {at} {before = before} {t = t} u new own =
    let first : ReadsTo at (u.front ++ (t.text ++ u.behind)) before (t.text ++ u.behind) = subst (λ (l : List ℕ). ReadsTo at l before (t.text ++ u.behind)) u.cut u.first in
    let again : ReadsTo at (u.front ++ (t.text ++ new)) before (t.text ++ new) =
    followed u.front (t.text ++ u.behind) (t.text ++ new) (some_follows t.text u.behind new (token_edges own).some) first in
    let placed : t.span.start + length (t.text ++ new) ≡ at + length (u.front ++ (t.text ++ new)) = omega (arith, length-append u.front (t.text ++ new), u.starts) in
    let P : Lexeme → Type 0 = λ x. ReadsTo at (u.front ++ (t.text ++ new)) (before ++ x ∷ []) new in
    subst P (lexeme_is t u.ends) (more_token t.kind t.text new t.span.start refl own placed again)

-- from that token on
pub from_token : {at : ℕ} {text rest : List ℕ} {before after : Tokens} {t : Lexeme} (u : UpTo at text before t after rest) → ReadsTo t.span.start (t.text ++ u.behind) (t ∷ after) rest
from_token {rest = rest} {after = after} {t = t} u =
    let P : Lexeme → Type 0 = λ x. ReadsTo t.span.start (t.text ++ u.behind) (x ∷ after) rest in
    let second : ReadsTo (t.span.start + length t.text) u.behind after rest = subst (λ (n : ℕ). ReadsTo n u.behind after rest) (sym u.ends) u.second in
    subst P (lexeme_is t u.ends) (token t.kind t.text u.behind refl u.own second)

-- two readings one behind another are one reading of the tokens of both
pub joined : {at to : ℕ} {text mid rest : List ℕ} {xs ys : Tokens} → ReadsTo at text xs mid → to + length mid ≡ at + length text → ReadsTo to mid ys rest → ReadsTo at text (xs ++ ys) rest
joined {at} {to} {mid = mid} {rest} {ys = ys} here placed second =
    let same : to ≡ at = omega (arith, placed) in
    subst (λ (n : ℕ). ReadsTo n mid ys rest) same second
joined (ignored part after cut h more) placed second =
    ignored part after cut h (joined more (omega (arith, placed, ap length cut, length-append part after)) second)
joined (token kind part after cut h more) placed second =
    token kind part after cut h (joined more (omega (arith, placed, ap length cut, length-append part after)) second)

three_parts : (a b c d : List ℕ) → a ++ (b ++ (c ++ d)) ≡ (a ++ (b ++ c)) ++ d
three_parts a b c d = simp append_assoc

pub start_comments : (b : ℕ) → is_name_start b ≡ true → is_comment_byte b ≡ true
start_comments b h = grind (arith, nat_tests)

pub start_numbers : (b : ℕ) → is_name_start b ≡ true → is_number_continue b ≡ true
start_numbers b h = grind (arith, nat_tests)

pub start_continues : (b : ℕ) → is_name_start b ≡ true → is_name_continue b ≡ true
start_continues b h = grind (arith, nat_tests)

-- ---- before any text, where a Name stood

-- what ends a text: no token, or one that is no string
pub data EndsUnquoted : Tokens → Type 0 where
  at_start : EndsUnquoted []
  behind_token : {tokens : Tokens} (others : Tokens) (t : Lexeme) → tokens ≡ others ++ t ∷ [] → (t.kind ≡ kind.String → ⊥) → EndsUnquoted tokens

-- a token that is no string, before a text that begins as a Name does
unquoted_again : {k : Kind} {part : List ℕ} (b : ℕ) (old new : List ℕ) → is_name_start b ≡ true → (k ≡ kind.String → ⊥) → IsToken k part (b ∷ old) → IsToken k part new
unquoted_again b old new starts no_string (sign e) = sign e
unquoted_again b old new starts no_string spread = spread
unquoted_again b old new starts no_string (name s p e) = absurd (let f = sym (start_continues b starts) ∙ e in cc)
unquoted_again b old new starts no_string (int integer e) = absurd (let f = sym (start_numbers b starts) ∙ e in cc)
unquoted_again b old new starts no_string (float number e) = absurd (let f = sym (start_numbers b starts) ∙ e in cc)
unquoted_again b old new starts no_string (empty_string e) = absurd (no_string refl)
unquoted_again b old new starts no_string (string body value is some characters) = string body value is some characters
unquoted_again b old new starts no_string (block_string body) = block_string body

-- what is ignored before a Name
no_comment : {part : List ℕ} (b : ℕ) (old new : List ℕ) → is_name_start b ≡ true → IsIgnored part (b ∷ old) → IsIgnored part new
no_comment b old new starts unicode_bom = unicode_bom
no_comment b old new starts (white_space e) = white_space e
no_comment b old new starts (line_terminator e) = line_terminator e
no_comment b old new starts (comment passes ends) = absurd (let f = sym (start_comments b starts) ∙ ends in cc)
no_comment b old new starts comma = comma

ignored_front : {part : List ℕ} (front : List ℕ) (b : ℕ) (old new : List ℕ) → is_name_start b ≡ true → IsIgnored part (front ++ b ∷ old) → IsIgnored part (front ++ new)
ignored_front [] b old new starts h = no_comment b old new starts h
ignored_front (c ∷ front) b old new starts h = ignored_follows (c ∷ (front ++ new)) (same_follows c (front ++ b ∷ old) (front ++ new)) h

unquoted_front : {k : Kind} {part : List ℕ} (front : List ℕ) (b : ℕ) (old new : List ℕ) → is_name_start b ≡ true → (k ≡ kind.String → ⊥) → IsToken k part (front ++ b ∷ old) →
    IsToken k part (front ++ new)
unquoted_front [] b old new starts no_string h = unquoted_again b old new starts no_string h
unquoted_front (c ∷ front) b old new starts no_string h = token_follows (c ∷ (front ++ new)) (same_follows c (front ++ b ∷ old) (front ++ new)).tokens h

ignored_before : {at : ℕ} {text rest : List ℕ} {tokens : Tokens} (b : ℕ) (old new : List ℕ) → is_name_start b ≡ true → rest ≡ b ∷ old → tokens ≡ [] → ReadsTo at text tokens rest →
    Before at text tokens rest new
ignored_before b old new starts is none here = record { front = []; cut = refl; reads = here }
ignored_before {rest = rest} b old new starts is none (ignored part after cut h more) =
    let m = ignored_before b old new starts is none more in
    let own : IsIgnored part (m.front ++ b ∷ old) = subst (IsIgnored part) (m.cut ∙ ap (λ (l : List ℕ). m.front ++ l) is) h in
    record {
      front = part ++ m.front;
      cut = cut ∙ ap (λ (l : List ℕ). part ++ l) m.cut ∙ sym (append_assoc part m.front rest);
      reads = ignored part (m.front ++ new) (append_assoc part m.front new) (ignored_front m.front b old new starts own) m.reads;
    }
ignored_before b old new starts is none (token kind part after cut h more) = absurd (cc)

-- A text that is read up to a Name is so read before any other text, if it does not end with a string.
pub followed_unquoted : {at : ℕ} {tokens : Tokens} (front : List ℕ) (b : ℕ) (old new : List ℕ) → is_name_start b ≡ true → EndsUnquoted tokens → ReadsTo at (front ++ b ∷ old) tokens (b ∷ old) →
    ReadsTo at (front ++ new) tokens new
followed_unquoted {at} front b old new starts at_start reads =
    let m = ignored_before b old new starts refl refl reads in
    subst (λ (l : List ℕ). ReadsTo at (l ++ new) [] new) (sym (same_front front m.front (b ∷ old) m.cut)) m.reads
followed_unquoted {at} {tokens} front b old new starts (behind_token others t tokens_are no_string) reads =
    let u : UpTo at (front ++ b ∷ old) others t [] (b ∷ old) = up_to others t [] reads tokens_are in
    let m : Before t.span.end u.behind [] (b ∷ old) new = ignored_before b old new starts refl refl u.second in
    let own : IsToken t.kind t.text (m.front ++ b ∷ old) = subst (IsToken t.kind t.text) m.cut u.own in
    let first : ReadsTo at (u.front ++ (t.text ++ (m.front ++ new))) (others ++ t ∷ []) (m.front ++ new) = through_again u (m.front ++ new) (unquoted_front m.front b old new starts no_string own) in
    let placed : t.span.end + length (m.front ++ new) ≡ at + length (u.front ++ (t.text ++ (m.front ++ new))) =
    omega (arith, length-append u.front (t.text ++ (m.front ++ new)), length-append t.text (m.front ++ new), u.starts, u.ends) in
    let all : ReadsTo at (u.front ++ (t.text ++ (m.front ++ new))) ((others ++ t ∷ []) ++ []) new = joined first placed m.reads in
    let tokens_same : (others ++ t ∷ []) ++ [] ≡ tokens = append-nil (others ++ t ∷ []) ∙ sym tokens_are in
    let front_same : front ≡ u.front ++ (t.text ++ m.front) =
    same_front front (u.front ++ (t.text ++ m.front)) (b ∷ old) (u.cut ∙ ap (λ (l : List ℕ). u.front ++ (t.text ++ l)) m.cut ∙ three_parts u.front t.text m.front (b ∷ old)) in
    let text_same : u.front ++ (t.text ++ (m.front ++ new)) ≡ front ++ new = three_parts u.front t.text m.front new ∙ ap (λ (l : List ℕ). l ++ new) (sym front_same) in
    subst (λ (l : List ℕ). ReadsTo at l tokens new) text_same (subst (λ (l : Tokens). ReadsTo at (u.front ++ (t.text ++ (m.front ++ new))) l new) tokens_same all)

-- ---- at any place

-- A text reads, from any place on, as these tokens but for their places.
pub record Like (place : ℕ) (text : List ℕ) (tokens : Tokens) (rest : List ℕ) : Type 0 where
  pub others : Tokens
  pub reads : ReadsTo place text others rest
  pub alike : AreAlike tokens others

abbrev pub ReadsLike : List ℕ → Tokens → List ℕ → Type 0
ReadsLike text tokens rest = (place : ℕ) → Like place text tokens rest

pub like_here : (text : List ℕ) → ReadsLike text [] text
like_here text place = record { others = []; reads = here; alike = tt }

pub like_ignored : {part after rest : List ℕ} {tokens : Tokens} → IsIgnored part after → ReadsLike after tokens rest → ReadsLike (part ++ after) tokens rest
like_ignored {part} {after} h more place =
    let m = more (place + length part) in
    record { others = m.others; reads = ignored part after refl h m.reads; alike = m.alike }

pub like_token : {after rest : List ℕ} {tokens : Tokens} (t : Lexeme) → IsToken t.kind t.text after → ReadsLike after tokens rest → ReadsLike (t.text ++ after) (t ∷ tokens) rest
like_token {after} t h more place =
    let m = more (place + length t.text) in
    record { others = lexeme_at place t.kind t.text ∷ m.others; reads = token t.kind t.text after refl h m.reads; alike = (refl, refl, m.alike) }

-- a reading may begin at any place
pub moved : {at : ℕ} {text rest : List ℕ} {tokens : Tokens} → ReadsTo at text tokens rest → ReadsLike text tokens rest
moved here place = record { others = []; reads = here; alike = tt }
moved (ignored part after cut h more) place =
    let m = moved more (place + length part) in
    record { others = m.others; reads = ignored part after cut h m.reads; alike = m.alike }
moved (token kind part after cut h more) place =
    let m = moved more (place + length part) in
    record { others = lexeme_at place kind part ∷ m.others; reads = token kind part after cut h m.reads; alike = (refl, refl, m.alike) }

pub and_then : {text mid rest : List ℕ} {xs ys : Tokens} → ReadsLike text xs mid → ReadsLike mid ys rest → ReadsLike text (xs ++ ys) rest
and_then {text} {mid} {xs = xs} {ys = ys} first second place =
    let a = first place in
    let to : ℕ = place + length text - length mid in
    let b = second to in
    record {
      others = a.others ++ b.others;
      reads = joined a.reads (omega (arith, rest_within a.reads)) b.reads;
      alike = alike_append xs a.others ys b.others a.alike b.alike;
    }

-- a reading of tokens is one of tokens that are alike
pub like_alike : {text rest : List ℕ} (xs ys : Tokens) → AreAlike xs ys → ReadsLike text ys rest → ReadsLike text xs rest
like_alike xs ys alike reads place =
    let m = reads place in
    record { others = m.others; reads = m.reads; alike = alike_trans xs ys m.others alike m.alike }

pub like_followed : {tokens : Tokens} (front old new : List ℕ) → Follows old new → ReadsLike (front ++ old) tokens old → ReadsLike (front ++ new) tokens new
like_followed front old new f reads place =
    let m = reads place in
    record { others = m.others; reads = followed front old new f m.reads; alike = m.alike }

-- ---- how tokens begin

-- the first byte of a token may stand in a comment
pub record Begins (part : List ℕ) : Type 0 where
  pub byte : ℕ
  pub others : List ℕ
  pub is : part ≡ byte ∷ others
  pub comments : is_comment_byte byte ≡ true

digit_comments : (b : ℕ) → is_non_zero_digit b ≡ true → is_comment_byte b ≡ true
digit_comments b h = grind (arith, nat_tests)

integer_begins : {part : List ℕ} → IsIntegerPart part → Begins part
integer_begins int_zero = record { byte = 48; others = []; is = refl; comments = refl }
integer_begins negative_zero = record { byte = 45; others = 48 ∷ []; is = refl; comments = refl }
integer_begins (digits {b} {bs} first others) = record { byte = b; others = bs; is = refl; comments = digit_comments b first }
integer_begins (negative_digits {b} {bs} first others) = record { byte = 45; others = b ∷ bs; is = refl; comments = refl }

begins_more : (part a others : List ℕ) → part ≡ a ++ others → Begins a → Begins part
begins_more part a others is b = record { byte = b.byte; others = b.others ++ others; is = is ∙ ap (λ (l : List ℕ). l ++ others) b.is; comments = b.comments }

pub token_begins : {k : Kind} {part after : List ℕ} → IsToken k part after → Begins part
token_begins (sign {b} {kind} e) = record { byte = b; others = []; is = refl; comments = found_holds is_comment_byte punctuators b kind e refl }
token_begins spread = record { byte = 46; others = 46 ∷ 46 ∷ []; is = refl; comments = refl }
token_begins (name {b} {bs} s p e) = record { byte = b; others = bs; is = refl; comments = start_comments b s }
token_begins (int integer e) = integer_begins integer
token_begins (float {part} (with_fraction a b is integer second) e) = begins_more part a b is (integer_begins integer)
token_begins (float {part} (with_exponent a b is integer third) e) = begins_more part a b is (integer_begins integer)
token_begins (float {part} (with_both a b c is integer second third) e) = begins_more part a (b ++ c) is (integer_begins integer)
token_begins (empty_string e) = record { byte = 34; others = 34 ∷ []; is = refl; comments = refl }
token_begins (string {part} body value is some characters) = record { byte = 34; others = body ++ 34 ∷ []; is = is; comments = refl }
token_begins (block_string {body} h) = record { byte = 34; others = 34 ∷ 34 ∷ body; is = refl; comments = refl }

-- before a token no comment ends, so that a space may follow there as well
pub space_before_token : {k : Kind} {part after : List ℕ} (new : List ℕ) → IsToken k part after → Follows (part ++ after) (32 ∷ new)
space_before_token {part = part} {after} new h =
    let b = token_begins h in
    subst (λ (l : List ℕ). Follows (l ++ after) (32 ∷ new)) (sym b.is) (space_follows b.byte (b.others ++ after) new b.comments)

-- a reading up to a token, from any place on, before another text
pub like_up_to : {at : ℕ} {text rest : List ℕ} {before after : Tokens} {t : Lexeme} (u : UpTo at text before t after rest) (new : List ℕ) → Follows (t.text ++ u.behind) new →
    ReadsLike (u.front ++ new) before new
like_up_to {at} {before = before} {t = t} u new f =
    like_followed u.front (t.text ++ u.behind) new f (moved (subst (λ (l : List ℕ). ReadsTo at l before (t.text ++ u.behind)) u.cut u.first))

pub like_up_to_space : {at : ℕ} {text rest : List ℕ} {before after : Tokens} {t : Lexeme} (u : UpTo at text before t after rest) (new : List ℕ) → ReadsLike (u.front ++ 32 ∷ new) before (32 ∷ new)
like_up_to_space u new = like_up_to u (32 ∷ new) (space_before_token new u.own)

pub like_space : {text rest : List ℕ} {tokens : Tokens} → ReadsLike text tokens rest → ReadsLike (32 ∷ text) tokens rest
like_space {text} more = like_ignored {part = 32 ∷ []} {after = text} (white_space refl) more
