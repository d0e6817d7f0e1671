-- The fault that is told is the one that tokens have.
use Rattle.std.proofs.Common.{arith, ◌≡◌, ◌≢◌, ℕ, zero, suc, ◌+◌, ◌<◌, ◌≤◌, List, [], ◌∷◌, ◌++◌, length, length-append, take, drop, get_or, map, Bool, true, false, Option, Some, None, refl, sym, ap, subst, ◌∙◌, append_assoc, ◌⊎◌, inl, inr}
use Rattle.std.specs.Prelude.{nat_le, if◌then◌else◌}
use Rattle.std.proofs.lemmas.List.{take-append-drop, take_at, length-take-le}
use Rattle.std.proofs.lemmas.Bool.{leb-true, leb-false}
use Rattle.gq_text.specs.declared.place.Span.{Span}
use Rattle.gq_lex.specs.Tokens.{Lexeme, lexeme_of, Reads}
use Rattle.gq_tree.specs.Plain.{Def}
use Rattle.gq_parse.specs.Grammar.{Tokens, starts}
use Rattle.gq_parse.specs.Documents.{IsDocument}
use Rattle.gq_parse.specs.Prefix.{Begins, IsSyntaxAt}
use Rattle.gq_parse.specs.Limits.{IsNestedWithin, IsTooDeepAt}
use Rattle.gq_parse.specs.Faults.{IsWrongAt, IsUnfinished, IsSyntaxPlace}
use Rattle.gq_parse.specs.declared.fault.Fault.TheVariants.{Syntax, Limit, NoMemory}
use Rattle.gq_parse.specs.declared.fault.Fault.{Fault}
use Rattle.gq_lex.specs.declared.token.Token.{Token}
use Rattle.gq_parse.specs.Helping.Telling.{told, IsFirstWrong, IsFirstDeep, HasNone, IsFaultIn}
use Rattle.gq_parse.proofs.Nesting.{nested_front}
use Rattle.gq_parse.proofs.Derivations.{too_deep_is, tokens_derive}
use Rattle.gq_parse.specs.Derives.{Derives}
use Rattle.gq_lex.proofs.Readings.{one_reading}

-- where tokens begin a document, their fronts do
begins_front : (front back : Tokens) → Begins (front ++ back) → Begins front
begins_front front back b = record {
  more = back ++ b.more;
  definitions = b.definitions;
  whole = subst (IsDocument b.definitions) (append_assoc front back b.more) b.whole;
}

take_more : (n m : ℕ) (tokens : Tokens) → n ≤ m → take m tokens ≡ take n tokens ++ drop n (take m tokens)
take_more n m tokens h = sym (take-append-drop n (take m tokens)) ∙ ap (λ (l : Tokens). l ++ drop n (take m tokens)) (take_take n m tokens h)
  where
    take_take : (n m : ℕ) (tokens : Tokens) → n ≤ m → take n (take m tokens) ≡ take n tokens
    take_take zero m tokens h = refl
    take_take (suc n) zero tokens h = absurd (omega (arith, h))
    take_take (suc n) (suc m) [] h = refl
    take_take (suc n) (suc m) (t ∷ ts) h = ap (λ (l : Tokens). t ∷ l) (take_take n m ts (omega (arith, h)))

begins_take : (n m : ℕ) (tokens : Tokens) → n ≤ m → Begins (take m tokens) → Begins (take n tokens)
begins_take n m tokens h b = begins_front (take n tokens) (drop n (take m tokens)) (subst Begins (take_more n m tokens h) b)

begins_all : (n : ℕ) (tokens : Tokens) → Begins tokens → Begins (take n tokens)
begins_all n tokens b = begins_front (take n tokens) (drop n tokens) (subst Begins (sym (take-append-drop n tokens)) b)

-- a wrong token stands behind no other one
not_behind : (tokens : Tokens) (i j : ℕ) → IsSyntaxAt tokens i → IsSyntaxAt tokens j → i < j → ⊥
not_behind tokens i j a b h = a.with_it (begins_take (suc i) j tokens (omega (arith, h)) b.before)

pub one_wrong : (tokens : Tokens) (p q : ℕ) → IsWrongAt tokens p → IsWrongAt tokens q → p ≡ q
one_wrong tokens p q a b = sym a.2 ∙ ap (λ (n : ℕ). starts (drop n tokens)) same ∙ b.2
  where
    same : a.0 ≡ b.0
    same = omega (arith, not_behind tokens a.0 b.0 a.1 b.1, not_behind tokens b.0 a.0 b.1 a.1)

-- of two cuts of a list, the first one's front and item stand before the second one's
cut_before : (a b c d : Tokens) (x y : Lexeme) → a ++ x ∷ c ≡ b ++ y ∷ d → length a < length b → (m : Tokens) × (b ≡ (a ++ x ∷ []) ++ m)
cut_before a [] c d x y e h = absurd (omega (arith, h))
cut_before [] (z ∷ b) c d x y e h = (b, cc)
cut_before (w ∷ a) (z ∷ b) c d x y e h =
    let t : ◌≡◌ {A = Tokens} (a ++ x ∷ c) (b ++ y ∷ d) = cc in
    let r = cut_before a b c d x y t (omega (arith, h)) in
    let r1 = r.1 in
    let same : w ≡ z = cc in
    (r.0, cc)

cut_same : (a b c d : Tokens) (x y : Lexeme) → a ++ x ∷ c ≡ b ++ y ∷ d → length a ≡ length b → x ≡ y
cut_same [] [] c d x y e h = cc
cut_same [] (z ∷ b) c d x y e h = absurd (omega (arith, h))
cut_same (w ∷ a) [] c d x y e h = absurd (omega (arith, h))
cut_same (w ∷ a) (z ∷ b) c d x y e h =
    let t : ◌≡◌ {A = Tokens} (a ++ x ∷ c) (b ++ y ∷ d) = cc in
    cut_same a b c d x y t (omega (arith, h))

not_deeper : (tokens : Tokens) (p q : ℕ) → (a : IsTooDeepAt tokens p) → (b : IsTooDeepAt tokens q) → length a.before < length b.before → ⊥
not_deeper tokens p q a b h =
    let r = cut_before a.before b.before a.after b.after a.token b.token (sym a.cut ∙ b.cut) h in
    a.passes (nested_front 100 (a.before ++ a.token ∷ []) r.0 (subst (IsNestedWithin 100) r.1 b.within))

pub one_deep : (tokens : Tokens) (p q : ℕ) → IsTooDeepAt tokens p → IsTooDeepAt tokens q → p ≡ q
one_deep tokens p q a b = sym a.at ∙ ap (λ (t : Lexeme). t.span.start) (cut_same a.before b.before a.after b.after a.token b.token (sym a.cut ∙ b.cut) same) ∙ b.at
  where
    same : length a.before ≡ length b.before
    same = omega (arith, not_deeper tokens p q a b, not_deeper tokens q p b a)

-- where all tokens begin a document, none is wrong
pub none_wrong : (tokens : Tokens) (p : ℕ) → Begins tokens → IsWrongAt tokens p → ⊥
none_wrong tokens p b w = w.1.with_it (begins_all (suc w.0) tokens b)

-- a wrong token is in no document
wrong_has_none : (tokens : Tokens) (p : ℕ) (document : List (Def Span)) → IsWrongAt tokens p → IsDocument document tokens → ⊥
wrong_has_none tokens p document w d = none_wrong tokens p (record { more = []; definitions = document; whole = subst (IsDocument document) (sym (append_nil tokens)) d }) w
  where
    append_nil : (ts : Tokens) → ts ++ [] ≡ ts
    append_nil [] = refl
    append_nil (t ∷ ts) = ap (λ (l : Tokens). t ∷ l) (append_nil ts)

deep_has_none : (tokens : Tokens) (p : ℕ) → IsTooDeepAt tokens p → HasNone tokens
deep_has_none tokens p deep document d nested = too_deep_is tokens p deep nested

-- the fault that is told
pub telling : (tokens : Tokens) (wrong deep : Option ℕ) (len : ℕ) → IsFirstWrong tokens wrong → IsFirstDeep tokens deep → (deep ≡ None → (document : List (Def Span)) → IsDocument document tokens → ⊥) → IsFaultIn tokens len (told wrong deep len)
telling tokens (Some w) (Some d) len wrong deep none = by_order (nat_le w d) refl
  where
    by_order : (b : Bool) → nat_le w d ≡ b → IsFaultIn tokens len (if b then Syntax w else Limit d)
    by_order true h = (deep_has_none tokens d deep, inl wrong, λ other there. omega (arith, leb-true w d h, one_deep tokens d other deep there))
    by_order false h = (deep_has_none tokens d deep, deep, λ other there. omega (arith, leb-false w d h, one_wrong tokens w other wrong there))
telling tokens None (Some d) len begins deep none = (deep_has_none tokens d deep, deep, λ other there. absurd (none_wrong tokens other begins there))
telling tokens (Some w) None len wrong nested none = (λ document d n. wrong_has_none tokens w document wrong d, inl wrong, λ other there. absurd (too_deep_is tokens other there nested))
telling tokens None None len begins nested none =
    (λ document d n. none refl document d, inr (record { begins = begins; none = none refl }, refl), λ other there. absurd (too_deep_is tokens other there nested))

-- where the token at an index begins
pub token_starts : (tokens : List Token) (i : ℕ) (d : Token) → i < length tokens → starts (drop i (map lexeme_of tokens)) ≡ (get_or tokens i d).span.start
token_starts [] i d h = absurd (omega (arith, h))
token_starts (t ∷ ts) zero d h = refl
token_starts (t ∷ ts) (suc i) d h = token_starts ts i d (omega (arith, h))

-- a fault other than want of memory leaves no document
pub refuses : (tokens : Tokens) (len : ℕ) (fault : Fault) → IsFaultIn tokens len fault → fault ≢ NoMemory → HasNone tokens
refuses tokens len (Syntax place) h e = h.0
refuses tokens len (Limit place) h e = h.0
refuses tokens len NoMemory h e = absurd (e refl)

pub refuses_text : (text : List ℕ) (tokens : Tokens) (len : ℕ) (fault : Fault) → Reads text tokens → IsFaultIn tokens len fault → fault ≢ NoMemory → (document : List (Def Span)) → Derives text document → ⊥
refuses_text text tokens len fault reads h e document derives =
    refuses tokens len fault h e document (tokens_derive text tokens document reads derives) (subst (IsNestedWithin 100) (one_reading text derives.tokens tokens derives.reads reads) derives.nested)
