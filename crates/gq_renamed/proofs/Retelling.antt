-- A text in which some of its names are replaced reads as the same tokens, those names changed.
use Rattle.std.proofs.Common.{◌≡◌, ℕ, suc, ◌+◌, ◌-◌, ◌<◌, ◌≤◌, List, [], ◌∷◌, ◌++◌, length, take, drop, Bool, true, false, Option, Some, refl, sym, ap, subst, ◌∙◌, ◌⊎◌, inl, inr, arith, append_assoc, length-append, map}
use Rattle.std.specs.Prelude.{◌==◌, if◌then◌else◌, All}
use Rattle.std.proofs.lemmas.List.{drop_at, drop-drop}
use Rattle.std.proofs.Math.Seq.{take-append-add, drop-append-add}
use Rattle.std.proofs.lemmas.Bool.Decides.{nat_tests}
use Rattle.gq_text.specs.declared.place.Span.{Span}
use Rattle.gq_text.specs.declared.replacement.Replacement.{Replacement}
use Rattle.gq_text.specs.Replaced.{replaced_from, replaced}
use Rattle.gq_edit.specs.Replacements.{AreDisjointFrom, FitText}
use Rattle.gq_lex.specs.declared.token.Kind.{Kind}
use Rattle.gq_lex.specs.declared.token.Kind.TheVariants as kind
use Rattle.gq_lex.specs.Bytes.{Passes, Stops, look_up, punctuators, punctuator, is_name_start, is_name_continue, is_comment_byte}
use Rattle.std.specs.Str.{IsCharBoundary}
use Rattle.gq_lex.specs.Places.{IsCutOf}
use Rattle.gq_lex.specs.Numbers.{IsIntegerPart, zero as int_zero, negative_zero, digits, negative_digits, IsFloat, with_fraction, with_exponent, with_both, is_number_continue}
use Rattle.gq_lex.specs.Strings.{is_quote}
use Rattle.gq_lex.specs.Tokens.{IsIgnored, unicode_bom, white_space, line_terminator, comment, comma, IsToken, sign, spread, name, int, float, empty_string, string, block_string, Lexeme, lexeme_at, ReadsTo, here, ignored, token, Reads}

-- a token, and whether it is replaced
pub record Marked : Type 0 where
  pub token : Lexeme
  pub marked : Bool

abbrev pub tokens_of : List Marked → List Lexeme
tokens_of ms = map (λ m. m.token) ms

abbrev pub on_mark : Bool → Replacement → List Replacement → List Replacement
on_mark true r rs = r ∷ rs
on_mark false r rs = rs

-- the replacements of the marked tokens
abbrev pub edits : List ℕ → List Marked → List Replacement
edits new [] = []
edits new (m ∷ ms) = on_mark m.marked (record { span = m.token.span; text = new }) (edits new ms)

abbrev pub text_by : Bool → List ℕ → List ℕ → List ℕ
text_by b new old = if b then new else old

-- the same tokens, the marked ones with the new text
abbrev pub Retold : List ℕ → List Marked → List Lexeme → Type 0
Retold new [] [] = Unit {0}
Retold new [] (u ∷ us) = ⊥
Retold new (m ∷ ms) [] = ⊥
Retold new (m ∷ ms) (u ∷ us) = (u.kind ≡ m.token.kind) × (u.text ≡ text_by m.marked new m.token.text) × Retold new ms us

-- each marked token is a Name
abbrev pub MarksNames : List Marked → Type 0
MarksNames [] = Unit {0}
MarksNames (m ∷ ms) = (m.marked ≡ true → m.token.kind ≡ kind.Name) × MarksNames ms

-- a text that is a Name
abbrev pub IsNameText : List ℕ → Type 0
IsNameText text = IsToken kind.Name text []

-- the replacements made in what is left of a text from `at` on
abbrev pub made : ℕ → List Replacement → List ℕ → List ℕ
made at [] rest = rest
made at (r ∷ rs) rest = take (r.span.start - at) rest ++ r.text ++ made r.span.end rs (drop (r.span.end - at) rest)

-- the first replacement begins at `at` or behind it
abbrev pub Behind : ℕ → List Replacement → Type 0
Behind at [] = Unit {0}
Behind at (r ∷ rs) = (at ≤ r.span.start) × (r.span.start ≤ r.span.end)

behind_weak : (at n : ℕ) (rs : List Replacement) → Behind (at + n) rs → Behind at rs
behind_weak at n [] h = tt
behind_weak at n (r ∷ rs) h = let a = h.0 in (omega arith, h.1)

take_over : (part after : List ℕ) (n : ℕ) → length part ≤ n → take n (part ++ after) ≡ part ++ take (n - length part) after
take_over part after n h =
    let e : n ≡ length part + (n - length part) = omega arith in
    ap (λ k. take k (part ++ after)) e ∙ take-append-add part after (n - length part)

drop_over : (part after : List ℕ) (n : ℕ) → length part ≤ n → drop n (part ++ after) ≡ drop (n - length part) after
drop_over part after n h =
    let e : n ≡ length part + (n - length part) = omega arith in
    ap (λ k. drop k (part ++ after)) e ∙ drop-append-add part after (n - length part)

-- replacements behind a part leave it as it is
made_over : (at : ℕ) (part after : List ℕ) (rs : List Replacement) → Behind (at + length part) rs → made at rs (part ++ after) ≡ part ++ made (at + length part) rs after
made_over at part after [] h = refl
made_over at part after (r ∷ rs) h =
    let first = h.0 in
    let second = h.1 in
    let a : r.span.start - at - length part ≡ r.span.start - (at + length part) = omega arith in
    let b : r.span.end - at - length part ≡ r.span.end - (at + length part) = omega arith in
    let front : take (r.span.start - at) (part ++ after) ≡ part ++ take (r.span.start - (at + length part)) after = take_over part after (r.span.start - at) (omega arith) ∙ ap (λ k. part ++ take k after) a in
    let back : drop (r.span.end - at) (part ++ after) ≡ drop (r.span.end - (at + length part)) after = drop_over part after (r.span.end - at) (omega arith) ∙ ap (λ k. drop k after) b in
    ap (λ (x : List ℕ). x ++ r.text ++ made r.span.end rs (drop (r.span.end - at) (part ++ after))) front
    ∙ ap (λ (x : List ℕ). (part ++ take (r.span.start - (at + length part)) after) ++ r.text ++ made r.span.end rs x) back
    ∙ simp append_assoc

-- a replacement right at the front
made_here : (at : ℕ) (part after new : List ℕ) (rs : List Replacement) → made at (record { span = record { start = at; end = at + length part }; text = new } ∷ rs) (part ++ after) ≡ new ++ made (at + length part) rs after
made_here at part after new rs =
    let a : at - at ≡ 0 = omega arith in
    let b : at + length part - at ≡ length part = omega arith in
    ap (λ k. take k (part ++ after) ++ new ++ made (at + length part) rs (drop (at + length part - at) (part ++ after))) a
    ∙ ap (λ k. new ++ made (at + length part) rs (drop k (part ++ after))) b
    ∙ ap (λ (x : List ℕ). new ++ made (at + length part) rs x) (drop_at part after (length part) refl)

on_mark_behind : (b : Bool) (at : ℕ) (r : Replacement) (rs : List Replacement) → (at ≤ r.span.start) × (r.span.start ≤ r.span.end) → Behind at rs → Behind at (on_mark b r rs)
on_mark_behind true at r rs h k = h
on_mark_behind false at r rs h k = k

-- the replacements of a reading's tokens lie behind its start
edits_behind : (new : List ℕ) (ms : List Marked) {at : ℕ} {text rest : List ℕ} {tokens : List Lexeme} → ReadsTo at text tokens rest → tokens ≡ tokens_of ms → Behind at (edits new ms)
edits_behind new [] reads is = tt
edits_behind new (m ∷ ms) here is = absurd (cc)
edits_behind new (m ∷ ms) {at} (ignored part after cut h more) is = behind_weak at (length part) (edits new (m ∷ ms)) (edits_behind new (m ∷ ms) more is)
edits_behind new (m ∷ ms) {at} (token {tokens = ts} k part after cut h more) is =
    let head : lexeme_at at k part ≡ m.token = cc in
    let tail : ts ≡ tokens_of ms = cc in
    let start : at ≡ m.token.span.start = ap (λ (t : Lexeme). t.span.start) head in
    let end : at + length part ≡ m.token.span.end = ap (λ (t : Lexeme). t.span.end) head in
    on_mark_behind m.marked at (record { span = m.token.span; text = new }) (edits new ms) (omega arith, omega arith)
    (behind_weak at (length part) (edits new ms) (edits_behind new ms more tail))

-- the first bytes are the same, or both begin a Name
abbrev pub HeadKept : List ℕ → List ℕ → Type 0
HeadKept [] [] = Unit {0}
HeadKept [] (c ∷ cs) = ⊥
HeadKept (b ∷ bs) [] = ⊥
HeadKept (b ∷ bs) (c ∷ cs) = (b ≡ c) ⊎ ((is_name_start b ≡ true) × (is_name_start c ≡ true))

head_same : (part a b : List ℕ) → 0 < length part → HeadKept (part ++ a) (part ++ b)
head_same [] a b some = absurd (omega arith)
head_same (x ∷ part) a b some = inl refl

ignored_some : {part after : List ℕ} → IsIgnored part after → 0 < length part
ignored_some unicode_bom = omega arith
ignored_some (white_space e) = omega arith
ignored_some (line_terminator e) = omega arith
ignored_some (comment passes ends) = omega arith
ignored_some comma = omega arith

integer_some : {part : List ℕ} → IsIntegerPart part → 0 < length part
integer_some int_zero = omega arith
integer_some negative_zero = omega arith
integer_some (digits first others) = omega arith
integer_some (negative_digits first others) = omega arith

float_some : {part : List ℕ} → IsFloat part → 0 < length part
float_some (with_fraction a b is integer second) = omega (arith, ap length is, length-append a b, integer_some integer)
float_some (with_exponent a b is integer third) = omega (arith, ap length is, length-append a b, integer_some integer)
float_some (with_both a b c is integer second third) = omega (arith, ap length is, length-append a (b ++ c), integer_some integer)

token_some : {k : Kind} {part after : List ℕ} → IsToken k part after → 0 < length part
token_some (sign e) = omega arith
token_some spread = omega arith
token_some (name s p e) = omega arith
token_some (int integer e) = integer_some integer
token_some (float number e) = float_some number
token_some (empty_string e) = omega arith
token_some (string body value is some characters) = omega (arith, ap length is)
token_some (block_string body) = omega arith

is_name_kind : Kind → Bool
is_name_kind kind.Name = true
is_name_kind _ = false

unnamed : List (ℕ × Kind) → Bool
unnamed [] = true
unnamed (e ∷ es) = if is_name_kind e.1 then false else unnamed es

first_unnamed : (t u : Bool) → (if t then false else u) ≡ true → (t ≡ false) × (u ≡ true)
first_unnamed true u h = absurd (cc)
first_unnamed false u h = (refl, h)

by_test : (t : Bool) (k own : Kind) (later : Option Kind) → (if t then Some own else later) ≡ Some k → is_name_kind own ≡ false → (later ≡ Some k → is_name_kind k ≡ false) → is_name_kind k ≡ false
by_test true k own later found h more = let same : own ≡ k = cc in ap is_name_kind (sym same) ∙ h
by_test false k own later found h more = more found

found_unnamed : (es : List (ℕ × Kind)) (n : ℕ) (k : Kind) → look_up n es ≡ Some k → unnamed es ≡ true → is_name_kind k ≡ false
unfolding unnamed
found_unnamed [] n k found h = absurd (cc)
found_unnamed (e ∷ es) n k found h =
    let both = first_unnamed (is_name_kind e.1) (unnamed es) h in
    by_test (n == e.0) k e.1 (look_up n es) found both.0 (λ later. found_unnamed es n k later both.1)

-- no punctuator is a Name
sign_no_name : (b : ℕ) (k : Kind) → punctuator b ≡ Some k → k ≡ kind.Name → ⊥
unfolding unnamed is_name_kind
sign_no_name b k e is = let f : true ≡ false = ap is_name_kind (sym is) ∙ found_unnamed punctuators b k e refl in cc

-- how a Name is spelled
pub record Spelled (text : List ℕ) : Type 0 where
  pub first : ℕ
  pub others : List ℕ
  pub is : text ≡ first ∷ others
  pub starts : is_name_start first ≡ true
  pub continues : Passes is_name_continue others

pub spelled : {k : Kind} {part after : List ℕ} → IsToken k part after → k ≡ kind.Name → Spelled part
spelled (sign {b} {kind = k} e) is = absurd (sign_no_name b k e is)
spelled spread is = absurd (cc)
spelled (name {b} {bs} s p e) is = record { first = b; others = bs; is = refl; starts = s; continues = p }
spelled (int integer e) is = absurd (cc)
spelled (float number e) is = absurd (cc)
spelled (empty_string e) is = absurd (cc)
spelled (string body value same some characters) is = absurd (cc)
spelled (block_string body) is = absurd (cc)

name_head : {k : Kind} {part after : List ℕ} (new rest : List ℕ) → IsToken k part after → k ≡ kind.Name → IsNameText new → HeadKept (part ++ after) (new ++ rest)
name_head {part = part} {after} new rest h is text_is =
    let a = spelled h is in
    let b = spelled text_is refl in
    let P : List ℕ → Type 0 = λ l. HeadKept (l ++ after) (new ++ rest) in
    let Q : List ℕ → Type 0 = λ l. HeadKept (a.first ∷ (a.others ++ after)) (l ++ rest) in
    subst P (sym a.is) (subst Q (sym b.is) (inr (a.starts, b.starts)))

-- one token, replaced or not, at the front of a text
head_by : (t : Bool) (k : Kind) (at : ℕ) (part after new : List ℕ) (rs : List Replacement) → IsToken k part after → (t ≡ true → k ≡ kind.Name) → IsNameText new → Behind (at + length part) rs →
    HeadKept (part ++ after) (made at (on_mark t (record { span = record { start = at; end = at + length part }; text = new }) rs) (part ++ after))
head_by true k at part after new rs h names is behind =
    subst (HeadKept (part ++ after)) (sym (made_here at part after new rs)) (name_head new (made (at + length part) rs after) h (names refl) is)
head_by false k at part after new rs h names is behind =
    subst (HeadKept (part ++ after)) (sym (made_over at part after rs behind)) (head_same part after (made (at + length part) rs after) (token_some h))

-- the replacements keep what the first byte says
head_kept : (new : List ℕ) (ms : List Marked) {at : ℕ} {text rest : List ℕ} {tokens : List Lexeme} → IsNameText new → MarksNames ms → ReadsTo at text tokens rest → rest ≡ [] → tokens ≡ tokens_of ms → HeadKept text (made at (edits new ms) text)
head_kept new [] {rest = rest} is names here none list = let P : List ℕ → Type 0 = λ l. HeadKept l l in subst P (sym none) tt
head_kept new (m ∷ ms) is names here none list = absurd (cc)
head_kept new ms {at} {text} is names (ignored part after cut h more) none list =
    let behind = edits_behind new ms more list in
    let kept : HeadKept (part ++ after) (made at (edits new ms) (part ++ after)) = subst (HeadKept (part ++ after)) (sym (made_over at part after (edits new ms) behind)) (head_same part after (made (at + length part) (edits new ms) after) (ignored_some h)) in
    let P : List ℕ → Type 0 = λ l. HeadKept l (made at (edits new ms) l) in
    subst P (sym cut) kept
head_kept new [] is names (token k part after cut h more) none list = absurd (cc)
head_kept new (m ∷ ms) {at} {text} is names (token {tokens = ts} k part after cut h more) none list =
    let head : lexeme_at at k part ≡ m.token = cc in
    let tail : ts ≡ tokens_of ms = cc in
    let behind = edits_behind new ms more tail in
    let named : m.marked ≡ true → k ≡ kind.Name = λ e. ap (λ (t : Lexeme). t.kind) head ∙ names.0 e in
    let kept = head_by m.marked k at part after new (edits new ms) h named is behind in
    let P : List ℕ → Type 0 = λ l. HeadKept l (made at (on_mark m.marked (record { span = record { start = at; end = at + length part }; text = new }) (edits new ms)) l) in
    let Q : Lexeme → Type 0 = λ t. HeadKept text (made at (on_mark m.marked (record { span = t.span; text = new }) (edits new ms)) text) in
    subst Q head (subst P (sym cut) kept)

start_continues : (b : ℕ) → is_name_start b ≡ true → is_name_continue b ≡ true
start_continues b h = grind (arith, nat_tests)

start_comments : (b : ℕ) → is_name_start b ≡ true → is_comment_byte b ≡ true
start_comments b h = grind (arith, nat_tests)

start_numbers : (b : ℕ) → is_name_start b ≡ true → is_number_continue b ≡ true
start_numbers b h = grind (arith, nat_tests)

start_no_quote : (b : ℕ) → is_name_start b ≡ true → is_quote b ≡ false
start_no_quote b h = grind (arith, nat_tests)

-- where a byte does not stand that no Name begins with, it does not stand before a text whose head is kept
fails_kept : (p : ℕ → Bool) → ((b : ℕ) → is_name_start b ≡ true → p b ≡ false) → (a b : List ℕ) → HeadKept a b → Stops p a → Stops p b
fails_kept p fails [] [] h stops = tt
fails_kept p fails [] (c ∷ b) h stops = absurd h
fails_kept p fails (x ∷ a) [] h stops = absurd h
fails_kept p fails (x ∷ a) (c ∷ b) (inl e) stops = ap p (sym e) ∙ stops
fails_kept p fails (x ∷ a) (c ∷ b) (inr e) stops = fails c e.1

-- where a run of bytes stops that a Name would go on with, it stops before a text whose head is kept
stops_kept : (p : ℕ → Bool) → ((b : ℕ) → is_name_start b ≡ true → p b ≡ true) → (a b : List ℕ) → HeadKept a b → Stops p a → Stops p b
stops_kept p starts [] [] h stops = tt
stops_kept p starts [] (c ∷ b) h stops = absurd h
stops_kept p starts (x ∷ a) [] h stops = absurd h
stops_kept p starts (x ∷ a) (c ∷ b) (inl e) stops = ap p (sym e) ∙ stops
stops_kept p starts (x ∷ a) (c ∷ b) (inr e) stops = absurd (let f = sym (starts x e.0) ∙ stops in cc)

ignored_kept : {part after : List ℕ} (other : List ℕ) → HeadKept after other → IsIgnored part after → IsIgnored part other
ignored_kept other kept unicode_bom = unicode_bom
ignored_kept other kept (white_space e) = white_space e
ignored_kept other kept (line_terminator e) = line_terminator e
ignored_kept other kept (comment {rest = after} passes ends) = comment passes (stops_kept is_comment_byte start_comments after other kept ends)
ignored_kept other kept comma = comma

token_kept : {k : Kind} {part after : List ℕ} (other : List ℕ) → HeadKept after other → IsToken k part after → IsToken k part other
token_kept other kept (sign e) = sign e
token_kept other kept spread = spread
token_kept other kept (name {rest = after} s p e) = name s p (stops_kept is_name_continue start_continues after other kept e)
token_kept other kept (int {rest = after} integer e) = int integer (stops_kept is_number_continue start_numbers after other kept e)
token_kept other kept (float {rest = after} number e) = float number (stops_kept is_number_continue start_numbers after other kept e)
token_kept other kept (empty_string {rest = after} e) = empty_string (fails_kept is_quote start_no_quote after other kept e)
token_kept other kept (string body value is some characters) = string body value is some characters
token_kept other kept (block_string body) = block_string body

stops_behind : {k : Kind} {part after : List ℕ} → IsToken k part after → k ≡ kind.Name → Stops is_name_continue after
stops_behind (sign {b} {kind = k} e) is = absurd (sign_no_name b k e is)
stops_behind spread is = absurd (cc)
stops_behind (name s p e) is = e
stops_behind (int integer e) is = absurd (cc)
stops_behind (float number e) is = absurd (cc)
stops_behind (empty_string e) is = absurd (cc)
stops_behind (string body value same some characters) is = absurd (cc)
stops_behind (block_string body) is = absurd (cc)

-- where a Name stands, another Name may stand
name_again : {k : Kind} {part after : List ℕ} (new other : List ℕ) → HeadKept after other → IsToken k part after → k ≡ kind.Name → IsNameText new → IsToken kind.Name new other
name_again {after = after} new other kept h is text_is =
    let b = spelled text_is refl in
    let stops = stops_kept is_name_continue start_continues after other kept (stops_behind h is) in
    let P : List ℕ → Type 0 = λ l. IsToken kind.Name l other in
    subst P (sym b.is) (name b.starts b.continues stops)

-- what a text reads as
pub record Rereads (new : List ℕ) (ms : List Marked) (place : ℕ) (text : List ℕ) : Type 0 where
  pub tokens : List Lexeme
  pub reads : ReadsTo place text tokens []
  pub retold : Retold new ms tokens

reread_by : (t : Bool) (k : Kind) (at place : ℕ) (part after new : List ℕ) (m : Marked) (ms : List Marked) → m.marked ≡ t → m.token ≡ lexeme_at at k part → IsToken k part after → (t ≡ true → k ≡ kind.Name) → IsNameText new → Behind (at + length part) (edits new ms) →
    HeadKept after (made (at + length part) (edits new ms) after) →
    ((p : ℕ) → Rereads new ms p (made (at + length part) (edits new ms) after)) →
    Rereads new (m ∷ ms) place (made at (on_mark t (record { span = record { start = at; end = at + length part }; text = new }) (edits new ms)) (part ++ after))
reread_by true k at place part after new m ms mark_is is h names text_is behind kept again =
    let other : List ℕ = made (at + length part) (edits new ms) after in
    let w = again (place + length new) in
    let k_is : m.token.kind ≡ k = ap (λ (t : Lexeme). t.kind) is in
    record {
      tokens = lexeme_at place kind.Name new ∷ w.tokens;
      reads = token kind.Name new other (made_here at part after new (edits new ms)) (name_again new other kept h (names refl) text_is) w.reads;
      retold = (sym (names refl) ∙ sym k_is, ap (λ b. text_by b new m.token.text) (sym mark_is), w.retold);
    }
reread_by false k at place part after new m ms mark_is is h names text_is behind kept again =
    let other : List ℕ = made (at + length part) (edits new ms) after in
    let w = again (place + length part) in
    record {
      tokens = lexeme_at place k part ∷ w.tokens;
      reads = token k part other (made_over at part after (edits new ms) behind) (token_kept other kept h) w.reads;
      retold = (ap (λ (t : Lexeme). t.kind) (sym is), ap (λ (t : Lexeme). t.text) (sym is) ∙ ap (λ b. text_by b new m.token.text) (sym mark_is), w.retold);
    }

-- with names replaced by a name, a text reads as the same tokens with that name
rereads : (new : List ℕ) (ms : List Marked) {at : ℕ} {text rest : List ℕ} {tokens : List Lexeme} → IsNameText new → MarksNames ms → ReadsTo at text tokens rest → rest ≡ [] → tokens ≡ tokens_of ms → (place : ℕ) → Rereads new ms place (made at (edits new ms) text)
rereads new [] is names here none list place =
    let P : List ℕ → Type 0 = λ l. Rereads new [] place l in
    subst P (sym none) (record { tokens = []; reads = here; retold = tt })
rereads new (m ∷ ms) is names here none list place = absurd (cc)
rereads new ms {at} is names (ignored part after cut h more) none list place =
    let behind = edits_behind new ms more list in
    let w = rereads new ms is names more none list (place + length part) in
    let kept = head_kept new ms is names more none list in
    let other : List ℕ = made (at + length part) (edits new ms) after in
    let P : List ℕ → Type 0 = λ l. Rereads new ms place (made at (edits new ms) l) in
    subst P (sym cut) (record { tokens = w.tokens; reads = ignored part other (made_over at part after (edits new ms) behind) (ignored_kept other kept h) w.reads; retold = w.retold })
rereads new [] is names (token k part after cut h more) none list place = absurd (cc)
rereads new (m ∷ ms) {at} {text} is names (token {tokens = ts} k part after cut h more) none list place =
    let head : lexeme_at at k part ≡ m.token = cc in
    let tail : ts ≡ tokens_of ms = cc in
    let behind = edits_behind new ms more tail in
    let kept = head_kept new ms is names.1 more none tail in
    let named : m.marked ≡ true → k ≡ kind.Name = λ e. ap (λ (t : Lexeme). t.kind) head ∙ names.0 e in
    let whole = reread_by m.marked k at place part after new m ms refl (sym head) h named is behind kept (rereads new ms is names.1 more none tail) in
    let P : List ℕ → Type 0 = λ l. Rereads new (m ∷ ms) place (made at (on_mark m.marked (record { span = record { start = at; end = at + length part }; text = new }) (edits new ms)) l) in
    let Q : Lexeme → Type 0 = λ t. Rereads new (m ∷ ms) place (made at (on_mark m.marked (record { span = t.span; text = new }) (edits new ms)) text) in
    subst Q head (subst P (sym cut) whole)

order_weak : (at n : ℕ) (rs : List Replacement) → AreDisjointFrom (at + n) rs → AreDisjointFrom at rs
order_weak at n [] h = tt
order_weak at n (r ∷ rs) h = let a = h.0 in (omega arith, h.1, h.2)

order_by : (t : Bool) (at len : ℕ) (new : List ℕ) (rs : List Replacement) → AreDisjointFrom (at + len) rs → AreDisjointFrom at (on_mark t (record { span = record { start = at; end = at + len }; text = new }) rs)
order_by true at len new rs h = (omega arith, omega arith, h)
order_by false at len new rs h = order_weak at len rs h

pub edits_in_order : (new : List ℕ) (ms : List Marked) {at : ℕ} {text rest : List ℕ} {tokens : List Lexeme} → ReadsTo at text tokens rest → tokens ≡ tokens_of ms → AreDisjointFrom at (edits new ms)
edits_in_order new [] reads is = tt
edits_in_order new (m ∷ ms) here is = absurd (cc)
edits_in_order new (m ∷ ms) {at} (ignored part after cut h more) is = order_weak at (length part) (edits new (m ∷ ms)) (edits_in_order new (m ∷ ms) more is)
edits_in_order new (m ∷ ms) {at} (token {tokens = ts} k part after cut h more) is =
    let head : lexeme_at at k part ≡ m.token = cc in
    let tail : ts ≡ tokens_of ms = cc in
    let P : Lexeme → Type 0 = λ t. AreDisjointFrom at (on_mark m.marked (record { span = t.span; text = new }) (edits new ms)) in
    subst P head (order_by m.marked at (length part) new (edits new ms) (edits_in_order new ms more tail))

-- the two ways to say what the replacements make
made_is : (at : ℕ) (rs : List Replacement) (text : List ℕ) → AreDisjointFrom at rs → made at rs (drop at text) ≡ replaced_from at rs text
made_is at [] text h = refl
made_is at (r ∷ rs) text h =
    let first = h.0 in
    let second = h.1 in
    let e : at + (r.span.end - at) ≡ r.span.end = omega arith in
    ap (λ (x : List ℕ). take (r.span.start - at) (drop at text) ++ r.text ++ made r.span.end rs x) (drop-drop (r.span.end - at) at text ∙ ap (λ k. drop k text) e)
    ∙ ap (λ (x : List ℕ). take (r.span.start - at) (drop at text) ++ r.text ++ x) (made_is r.span.end rs text h.2)

-- a text whose marked names are replaced reads as the same tokens, those with the new name
pub replaced_reads : (new : List ℕ) (ms : List Marked) (text : List ℕ) → IsNameText new → MarksNames ms → Reads text (tokens_of ms) → Rereads new ms 0 (replaced (edits new ms) text)
replaced_reads new ms text is names reads =
    subst (Rereads new ms 0) (made_is 0 (edits new ms) text (edits_in_order new ms reads refl)) (rereads new ms is names reads refl refl 0)

-- the replacements of tokens that cut no character cut none
fit_by : (t : Bool) (text new : List ℕ) (span : Span) (rs : List Replacement) → IsCharBoundary text span.start × IsCharBoundary text span.end → FitText text rs → FitText text (on_mark t (record { span = span; text = new }) rs)
fit_by true text new span rs h k = (h.0, h.1, k)
fit_by false text new span rs h k = k

pub edits_fit : (new text : List ℕ) (ms : List Marked) → All (IsCutOf text) (tokens_of ms) → FitText text (edits new ms)
edits_fit new text [] h = tt
edits_fit new text (m ∷ ms) h = fit_by m.marked text new m.token.span (edits new ms) (h 0 m.token (omega arith)) (edits_fit new text ms (λ k d within. h (suc k) d (omega arith)))
