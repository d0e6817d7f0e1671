-- Tokens that are alike: joined, counted, and how deep they nest.
use Rattle.std.proofs.Common.{◌≡◌, ℕ, zero, suc, ◌+◌, ◌≤◌, [], ◌∷◌, ◌++◌, length, take, cond, refl, sym, ap, subst, ◌∙◌, arith}
use Rattle.std.proofs.lemmas.List.Sums.{sum_by-append}
use Rattle.gq_lex.specs.declared.token.Kind.{Kind}
use Rattle.gq_lex.specs.Tokens.{Lexeme}
use Rattle.gq_parse.specs.Grammar.{Tokens}
use Rattle.gq_parse.specs.Limits.{opens, closes, opened, closed, IsNestedWithin}
use Rattle.gq_laws.proofs.Cutting.Alike.{AreAlike}

pub alike_same : (xs : Tokens) → AreAlike xs xs
alike_same [] = tt
alike_same (x ∷ xs) = (refl, refl, alike_same xs)

pub alike_append : (xs us ys vs : Tokens) → AreAlike xs us → AreAlike ys vs → AreAlike (xs ++ ys) (us ++ vs)
alike_append [] [] ys vs a b = b
alike_append [] (u ∷ us) ys vs a b = absurd a
alike_append (x ∷ xs) [] ys vs a b = absurd a
alike_append (x ∷ xs) (u ∷ us) ys vs a b = (a.0, a.1, alike_append xs us ys vs a.2 b)

pub alike_trans : (xs ys zs : Tokens) → AreAlike xs ys → AreAlike ys zs → AreAlike xs zs
alike_trans [] [] zs a b = b
alike_trans [] (y ∷ ys) zs a b = absurd a
alike_trans (x ∷ xs) [] zs a b = absurd a
alike_trans (x ∷ xs) (y ∷ ys) [] a b = absurd b
alike_trans (x ∷ xs) (y ∷ ys) (z ∷ zs) a b = (b.0 ∙ a.0, b.1 ∙ a.1, alike_trans xs ys zs a.2 b.2)

pub alike_length : (xs ys : Tokens) → AreAlike xs ys → length xs ≡ length ys
alike_length [] [] a = refl
alike_length [] (y ∷ ys) a = absurd a
alike_length (x ∷ xs) [] a = absurd a
alike_length (x ∷ xs) (y ∷ ys) a = ap suc (alike_length xs ys a.2)

pub alike_take : (n : ℕ) (xs ys : Tokens) → AreAlike xs ys → AreAlike (take n xs) (take n ys)
alike_take zero xs ys a = tt
alike_take (suc n) [] [] a = tt
alike_take (suc n) [] (y ∷ ys) a = absurd a
alike_take (suc n) (x ∷ xs) [] a = absurd a
alike_take (suc n) (x ∷ xs) (y ∷ ys) a = (a.0, a.1, alike_take n xs ys a.2)

pub opened_append : (xs ys : Tokens) → opened (xs ++ ys) ≡ opened xs + opened ys
opened_append xs ys = sum_by-append (λ (t : Lexeme). cond (opens t.kind) 1 0) xs ys

pub closed_append : (xs ys : Tokens) → closed (xs ++ ys) ≡ closed xs + closed ys
closed_append xs ys = sum_by-append (λ (t : Lexeme). cond (closes t.kind) 1 0) xs ys

-- how many one token opens, and how many it closes
abbrev pub opening : Lexeme → ℕ
opening t = cond (opens t.kind) 1 0

abbrev pub closing : Lexeme → ℕ
closing t = cond (closes t.kind) 1 0

pub opened_more : (x : Lexeme) (xs : Tokens) → opened (x ∷ xs) ≡ opening x + opened xs
opened_more x xs = opened_append (x ∷ []) xs ∙ ap (λ (n : ℕ). n + opened xs) (omega arith)

pub closed_more : (x : Lexeme) (xs : Tokens) → closed (x ∷ xs) ≡ closing x + closed xs
closed_more x xs = closed_append (x ∷ []) xs ∙ ap (λ (n : ℕ). n + closed xs) (omega arith)

pub alike_opened : (xs ys : Tokens) → AreAlike xs ys → opened ys ≡ opened xs
alike_opened [] [] a = refl
alike_opened [] (y ∷ ys) a = absurd a
alike_opened (x ∷ xs) [] a = absurd a
alike_opened (x ∷ xs) (y ∷ ys) a =
    let same : opening y ≡ opening x = ap (λ (k : Kind). cond {A = ℕ} (opens k) 1 0) a.0 in
    omega (arith, alike_opened xs ys a.2, same, opened_more x xs, opened_more y ys)

pub alike_closed : (xs ys : Tokens) → AreAlike xs ys → closed ys ≡ closed xs
alike_closed [] [] a = refl
alike_closed [] (y ∷ ys) a = absurd a
alike_closed (x ∷ xs) [] a = absurd a
alike_closed (x ∷ xs) (y ∷ ys) a =
    let same : closing y ≡ closing x = ap (λ (k : Kind). cond {A = ℕ} (closes k) 1 0) a.0 in
    omega (arith, alike_closed xs ys a.2, same, closed_more x xs, closed_more y ys)

pub alike_nested : (most : ℕ) (xs ys : Tokens) → AreAlike xs ys → IsNestedWithin most xs → IsNestedWithin most ys
alike_nested most xs ys a nested n =
    let same = alike_take n xs ys a in
    omega (arith, nested n, alike_opened (take n xs) (take n ys) same, alike_closed (take n xs) (take n ys) same)

-- ---- how deep tokens nest that come behind others, by how many of these open and close

abbrev pub IsNestedBehind : (most opening closing : ℕ) → Tokens → Type 0
IsNestedBehind most o c xs = (n : ℕ) → o + opened (take n xs) ≤ c + closed (take n xs) + most

pub behind_none : (most : ℕ) (xs : Tokens) → IsNestedWithin most xs → IsNestedBehind most 0 0 xs
behind_none most xs nested n = omega (arith, nested n)

pub none_behind : (most : ℕ) (xs : Tokens) → IsNestedBehind most 0 0 xs → IsNestedWithin most xs
none_behind most xs nested n = omega (arith, nested n)

-- behind no more that open, and no fewer that close
pub behind_less : (most o c p d : ℕ) (xs : Tokens) → p + c ≤ o + d → IsNestedBehind most o c xs → IsNestedBehind most p d xs
behind_less most o c p d xs h nested n = omega (arith, nested n, h)

behind_rest : (most o c : ℕ) (x : Lexeme) (xs : Tokens) → IsNestedBehind most o c (x ∷ xs) → IsNestedBehind most (o + opening x) (c + closing x) xs
behind_rest most o c x xs nested n =
    let one : o + opened (x ∷ take n xs) ≤ c + closed (x ∷ take n xs) + most = nested (suc n) in
    omega (arith, one, opened_more x (take n xs), closed_more x (take n xs))

behind_more : (most o c : ℕ) (x : Lexeme) (xs : Tokens) → o ≤ c + most → IsNestedBehind most (o + opening x) (c + closing x) xs → IsNestedBehind most o c (x ∷ xs)
behind_more most o c x xs h nested zero = omega (arith, h)
behind_more most o c x xs h nested (suc n) =
    let P : ℕ → ℕ → Type 0 = λ a b. o + a ≤ c + b + most in
    let one : P (opening x + opened (take n xs)) (closing x + closed (take n xs)) = omega (arith, nested n) in
    subst (λ a. P a (closed (x ∷ take n xs))) (sym (opened_more x (take n xs))) (subst (P (opening x + opened (take n xs))) (sym (closed_more x (take n xs))) one)

-- nothing has been opened too deep before
before_all : (most o c : ℕ) (xs : Tokens) → IsNestedBehind most o c xs → o ≤ c + most
before_all most o c xs nested = let one : o + 0 ≤ c + 0 + most = nested 0 in omega (arith, one)

only_before : (most o c : ℕ) → o ≤ c + most → IsNestedBehind most o c []
only_before most o c h zero = omega (arith, h)
only_before most o c h (suc n) = omega (arith, h)

pub nested_first : (most o c : ℕ) (xs ys : Tokens) → IsNestedBehind most o c (xs ++ ys) → IsNestedBehind most o c xs
nested_first most o c [] ys nested = only_before most o c (before_all most o c ys nested)
nested_first most o c (x ∷ xs) ys nested =
    behind_more most o c x xs (before_all most o c (x ∷ (xs ++ ys)) nested) (nested_first most (o + opening x) (c + closing x) xs ys (behind_rest most o c x (xs ++ ys) nested))

pub nested_second : (most o c : ℕ) (xs ys : Tokens) → IsNestedBehind most o c (xs ++ ys) → IsNestedBehind most (o + opened xs) (c + closed xs) ys
nested_second most o c [] ys nested n = omega (arith, nested n)
nested_second most o c (x ∷ xs) ys nested n =
    omega (arith, nested_second most (o + opening x) (c + closing x) xs ys (behind_rest most o c x (xs ++ ys) nested) n, opened_more x xs, closed_more x xs)

pub nested_both : (most o c : ℕ) (xs ys : Tokens) → IsNestedBehind most o c xs → IsNestedBehind most (o + opened xs) (c + closed xs) ys → IsNestedBehind most o c (xs ++ ys)
nested_both most o c [] ys first second = λ n. omega (arith, second n)
nested_both most o c (x ∷ xs) ys first second =
    let b : IsNestedBehind most (o + opening x + opened xs) (c + closing x + closed xs) ys = λ m. omega (arith, second m, opened_more x xs, closed_more x xs) in
    behind_more most o c x (xs ++ ys) (before_all most o c (x ∷ xs) first) (nested_both most (o + opening x) (c + closing x) xs ys (behind_rest most o c x xs first) b)
