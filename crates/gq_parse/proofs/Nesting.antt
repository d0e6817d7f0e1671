-- Fronts of the tokens, one token longer.
use Rattle.std.proofs.Common.{◌≡◌, ℕ, ◌+◌, ◌<◌, ◌≤◌, suc, Bool, true, false, cond, List, [], ◌∷◌, ◌++◌, length, take, drop, map, get_or, refl, ap, sym, subst, ◌∙◌, arith, ⊎_elim, length-append}
use Rattle.std.specs.Prelude.{count_by}
use Rattle.std.proofs.lemmas.Bool.{cases_lt}
use Rattle.std.proofs.lemmas.List.{map-append, take_more, take-append-le, take_all, take-append-drop}
use Rattle.std.proofs.lemmas.List.Sums.{sum_by-append}
use Rattle.std.proofs.Math.Seq.{drop-cons, take-append_seam}
use Rattle.gq_lex.specs.declared.token.Kind.{Kind}
use Rattle.gq_lex.specs.declared.token.Kind.TheVariants.{BraceOpen, BraceClose, BracketOpen, BracketClose}
use Rattle.gq_lex.specs.declared.token.Token.{Token}
use Rattle.gq_lex.specs.Tokens.{Lexeme, lexeme_of}
use Rattle.gq_parse.specs.Limits.{opens, closes, opened, closed, IsNestedWithin, IsTooDeepAt}

-- one token more counts once if it passes
pub count_by-push : {X : Type 0} (p : X → Bool) (xs : List X) (x : X) → count_by p (xs ++ x ∷ []) ≡ count_by p xs + cond (p x) 1 0
count_by-push p xs x = sum_by-append (λ x. cond (p x) 1 0) xs (x ∷ []) ∙ ap (λ n. count_by p xs + n) (omega arith)

pub opened_yes : (xs : List Lexeme) (t : Lexeme) → opens t.kind ≡ true → opened (xs ++ t ∷ []) ≡ opened xs + 1
opened_yes xs t h = count_by-push (λ (t : Lexeme). opens t.kind) xs t ∙ ap (λ (b : Bool). opened xs + cond b 1 0) h

pub opened_no : (xs : List Lexeme) (t : Lexeme) → opens t.kind ≡ false → opened (xs ++ t ∷ []) ≡ opened xs
opened_no xs t h = count_by-push (λ (t : Lexeme). opens t.kind) xs t ∙ ap (λ (b : Bool). opened xs + cond b 1 0) h ∙ omega arith

pub closed_yes : (xs : List Lexeme) (t : Lexeme) → closes t.kind ≡ true → closed (xs ++ t ∷ []) ≡ closed xs + 1
closed_yes xs t h = count_by-push (λ (t : Lexeme). closes t.kind) xs t ∙ ap (λ (b : Bool). closed xs + cond b 1 0) h

pub closed_no : (xs : List Lexeme) (t : Lexeme) → closes t.kind ≡ false → closed (xs ++ t ∷ []) ≡ closed xs
closed_no xs t h = count_by-push (λ (t : Lexeme). closes t.kind) xs t ∙ ap (λ (b : Bool). closed xs + cond b 1 0) h ∙ omega arith

-- the tokens up to an index, one more
pub front_more : (xs : List Token) (i : ℕ) (d : Token) → i < length xs → map lexeme_of (take (i + 1) xs) ≡ map lexeme_of (take i xs) ++ lexeme_of (get_or xs i d) ∷ []
front_more xs i d h = ap (map lexeme_of) (take_more xs i d h) ∙ map-append lexeme_of (take i xs) (get_or xs i d ∷ [])

-- tokens that nest within a limit still do so with one more that does not pass it
pub nested_push : (most : ℕ) (xs : List Lexeme) (t : Lexeme) → IsNestedWithin most xs → opened (xs ++ t ∷ []) ≤ closed (xs ++ t ∷ []) + most → IsNestedWithin most (xs ++ t ∷ [])
nested_push most xs t nested last n = ⊎_elim shorter whole (cases_lt n (length (xs ++ t ∷ [])))
  where
    P : List Lexeme → Type 0
    P ts = opened ts ≤ closed ts + most

    shorter : n < length (xs ++ t ∷ []) → P (take n (xs ++ t ∷ []))
    shorter h = let within : n ≤ length xs = omega (arith, simp length-append at h) in subst P (sym (take-append-le n xs (t ∷ []) within)) (nested n)

    whole : length (xs ++ t ∷ []) ≤ n → P (take n (xs ++ t ∷ []))
    whole h = subst P (sym (take_all n (xs ++ t ∷ []) h)) last

pub nested_whole : (most : ℕ) (xs : List Lexeme) → IsNestedWithin most xs → opened xs ≤ closed xs + most
nested_whole most xs nested = let P : List Lexeme → Type 0 = λ ts. opened ts ≤ closed ts + most in subst P (take_all (length xs) xs (omega arith)) (nested (length xs))

-- so many of the first tokens open, so many close, and they nest within the limit
pub record Counted (tokens : List Token) (n opening closing : ℕ) : Type 0 where
  pub opened_is : opening ≡ opened (map lexeme_of (take n tokens))
  pub closed_is : closing ≡ closed (map lexeme_of (take n tokens))
  pub nested : IsNestedWithin 100 (map lexeme_of (take n tokens))

counted_more : (tokens : List Token) (n o c : ℕ) (d : Token) → n < length tokens → IsNestedWithin 100 (map lexeme_of (take n tokens)) →
    o ≡ opened (map lexeme_of (take n tokens) ++ lexeme_of (get_or tokens n d) ∷ []) → c ≡ closed (map lexeme_of (take n tokens) ++ lexeme_of (get_or tokens n d) ∷ []) → o ≤ c + 100 → Counted tokens (n + 1) o c
counted_more tokens n o c d h nested o_is c_is le =
    let more = front_more tokens n d h in
    let P : List Lexeme → Type 0 = λ ts. IsNestedWithin 100 ts in
    record {
      opened_is = o_is ∙ ap opened (sym more);
      closed_is = c_is ∙ ap closed (sym more);
      nested = subst P (sym more) (nested_push 100 _ _ nested (omega (arith, o_is, c_is)));
    }

opens_no_close : (t : Lexeme) → opens t.kind ≡ true → closes t.kind ≡ false
opens_no_close t h = apart t.kind h
  where
    apart : (k : Kind) → opens k ≡ true → closes k ≡ false
    apart BraceOpen h = refl
    apart BracketOpen h = refl
    apart BraceClose h = absurd (cc)
    apart BracketClose h = absurd (cc)
    apart _ h = refl

-- a token that opens, one that closes, and one that does neither
pub counted_open : (tokens : List Token) (n o c : ℕ) (d : Token) → n < length tokens → Counted tokens n o c → opens (get_or tokens n d).kind ≡ true → o + 1 ≤ c + 100 → Counted tokens (n + 1) (o + 1) c
counted_open tokens n o c d h counts is_one le =
    let xs = map lexeme_of (take n tokens) in
    let t = lexeme_of (get_or tokens n d) in
    counted_more tokens n (o + 1) c d h counts.nested (ap (λ k. k + 1) counts.opened_is ∙ sym (opened_yes xs t is_one)) (counts.closed_is ∙ sym (closed_no xs t (opens_no_close t is_one))) le

pub counted_close : (tokens : List Token) (n o c : ℕ) (d : Token) → n < length tokens → Counted tokens n o c → opens (get_or tokens n d).kind ≡ false → closes (get_or tokens n d).kind ≡ true → Counted tokens (n + 1) o (c + 1)
counted_close tokens n o c d h counts is_other is_one =
    let xs = map lexeme_of (take n tokens) in
    let t = lexeme_of (get_or tokens n d) in
    let whole = nested_whole 100 xs counts.nested in
    counted_more tokens n o (c + 1) d h counts.nested (counts.opened_is ∙ sym (opened_no xs t is_other)) (ap (λ k. k + 1) counts.closed_is ∙ sym (closed_yes xs t is_one)) (omega (arith, whole, counts.opened_is, counts.closed_is))

pub counted_other : (tokens : List Token) (n o c : ℕ) (d : Token) → n < length tokens → Counted tokens n o c → opens (get_or tokens n d).kind ≡ false → closes (get_or tokens n d).kind ≡ false → Counted tokens (n + 1) o c
counted_other tokens n o c d h counts is_other neither =
    let xs = map lexeme_of (take n tokens) in
    let t = lexeme_of (get_or tokens n d) in
    let whole = nested_whole 100 xs counts.nested in
    counted_more tokens n o c d h counts.nested (counts.opened_is ∙ sym (opened_no xs t is_other)) (counts.closed_is ∙ sym (closed_no xs t neither)) (omega (arith, whole, counts.opened_is, counts.closed_is))

-- the token that opens one bracket too many
pub counted_too_deep : (tokens : List Token) (n o c : ℕ) (d : Token) → n < length tokens → Counted tokens n o c → opens (get_or tokens n d).kind ≡ true → c + 100 < o + 1 → IsTooDeepAt (map lexeme_of tokens) (get_or tokens n d).span.start
counted_too_deep tokens n o c d h counts is_one lt =
    let xs = map lexeme_of (take n tokens) in
    let t = lexeme_of (get_or tokens n d) in
    record {
      before = xs;
      token = t;
      after = map lexeme_of (drop (suc n) tokens);
      cut = ap (map lexeme_of) (sym (take-append-drop n tokens)) ∙ map-append lexeme_of (take n tokens) (drop n tokens) ∙ ap (λ (ts : List Token). xs ++ map lexeme_of ts) (drop-cons tokens n d h);
      within = counts.nested;
      passes = λ nested. let whole = nested_whole 100 (xs ++ t ∷ []) nested in
          absurd (omega (arith, whole, opened_yes xs t is_one, closed_no xs t (opens_no_close t is_one), counts.opened_is, counts.closed_is, lt));
      at = refl;
    }

-- a front of tokens nests within what they all nest within
pub nested_front : (most : ℕ) (xs ys : List Lexeme) → IsNestedWithin most (xs ++ ys) → IsNestedWithin most xs
nested_front most xs ys nested n = ⊎_elim shorter whole (cases_lt n (length xs))
  where
    P : List Lexeme → Type 0
    P ts = opened ts ≤ closed ts + most

    shorter : n < length xs → P (take n xs)
    shorter h = let within : n ≤ length xs = omega arith in subst P (take-append-le n xs ys within) (nested n)

    whole : length xs ≤ n → P (take n xs)
    whole h = subst P (take-append_seam xs ys ∙ sym (take_all n xs h)) (nested (length xs))
