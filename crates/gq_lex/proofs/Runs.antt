-- Runs of bytes that pass a test, and what is found in a table.
use Rattle.std.proofs.Common.{◌≡◌, ◌≢◌, ℕ, suc, ◌+◌, ◌≤◌, List, [], ◌∷◌, ◌++◌, length, take, drop, Bool, true, false, cond, eqb, Option, Some, None, Result, Ok, refl, sym, ap, subst, ◌∙◌, ◌<◌, length-append, ⊎_elim, arith, one-add}
use Rattle.std.specs.List.{prefix_len}
use Rattle.std.proofs.lemmas.Bool.Decides.{eqb_tells, nat_tests}
use Rattle.std.proofs.lemmas.List.{take_at, drop_at}
use Rattle.gq_lex.specs.declared.token.Kind.{Kind}
use Rattle.gq_lex.specs.Bytes.{Passes, Stops, look_up}
use Rattle.gq_lex.specs.Helping.Reading.{IsPiece, Found}

-- what equations of numbers and of answers tell
pub is_number : (b n : ℕ) → eqb b n ≡ true → b ≡ n
is_number b n h = grind (arith, nat_tests)

pub some_inj : {A : Type 0} {x y : A} → ◌≡◌ {A = Option A} (Some x) (Some y) → x ≡ y
some_inj h = cc

pub some_none : {A : Type 0} {x : A} → ◌≡◌ {A = Option A} (Some x) None → ⊥
some_none h = cc

pub ok_inj : {A B : Type 0} {x y : A} → ◌≡◌ {A = Result A B} (Ok x) (Ok y) → x ≡ y
ok_inj h = cc

-- what passes is the longest prefix that passes, where what follows stops
pub prefix_len_stops_at : (p : ℕ → Bool) (xs rest : List ℕ) → Passes p xs → Stops p rest → prefix_len p (xs ++ rest) ≡ length xs
prefix_len_stops_at p [] [] passes stops = refl
prefix_len_stops_at p [] (b ∷ rest) passes stops = ap (λ t. cond t (1 + prefix_len p rest) 0) stops
prefix_len_stops_at p (x ∷ xs) rest passes stops =
    ap (λ t. cond t (1 + prefix_len p (xs ++ rest)) 0) passes.0 ∙ one-add (prefix_len p (xs ++ rest)) ∙ ap suc (prefix_len_stops_at p xs rest passes.1 stops)

-- the two parts of a text at its longest prefix that passes
pub record Cut (p : ℕ → Bool) (xs : List ℕ) (n : ℕ) : Type 0 where
  pub within : n ≤ length xs
  pub passes : Passes p (take n xs)
  pub stops : Stops p (drop n xs)

cut_step : (p : ℕ → Bool) (b : Bool) (x : ℕ) (xs : List ℕ) → p x ≡ b → Cut p xs (prefix_len p xs) → Cut p (x ∷ xs) (cond b (1 + prefix_len p xs) 0)
cut_step p true x xs e h = rw (one-add (prefix_len p xs)) (record { within = omega (arith, h.within); passes = (e, h.passes); stops = h.stops })
cut_step p false x xs e h = record { within = omega arith; passes = tt; stops = e }

pub cut_prefix : (p : ℕ → Bool) (xs : List ℕ) → Cut p xs (prefix_len p xs)
cut_prefix p [] = record { within = omega arith; passes = tt; stops = tt }
cut_prefix p (x ∷ xs) = cut_step p (p x) x xs refl (cut_prefix p xs)

-- a test that holds along a table holds of what is found in it
abbrev pub holds_along : {X : Type 0} → (ℕ → Bool) → List (ℕ × X) → Bool
holds_along t [] = true
holds_along t (e ∷ es) = cond (t e.0) (holds_along t es) false

pub both_true : (b c : Bool) → cond b c false ≡ true → (b ≡ true) × (c ≡ true)
both_true true c h = (refl, h)
both_true false c h = cc

pub found_holds : {X : Type 0} (t : ℕ → Bool) (es : List (ℕ × X)) (n : ℕ) (x : X) → look_up n es ≡ Some x → holds_along t es ≡ true → t n ≡ true
found_holds t [] n x found holds = cc
found_holds t (e ∷ es) n x found holds =
    let both = both_true (t e.0) (holds_along t es) holds in
    ⊎_elim
    (λ (h : (eqb n e.0 ≡ true) × (n ≡ e.0)). ap t h.1 ∙ both.0)
    (λ (h : (eqb n e.0 ≡ false) × (n ≢ e.0)). found_holds t es n x (ap (λ b. cond b (Some e.1) (look_up n es)) (sym h.0) ∙ found) both.1)
    (eqb_tells n e.0)

pub not_true : (b : Bool) → cond b false true ≡ true → b ≡ false
not_true true h = cc
not_true false h = refl

-- a part of a text that is a piece is found
pub found_of : (bs part after : List ℕ) (kind : Option Kind) (n : ℕ) → bs ≡ part ++ after → length part ≡ n → 0 < n → IsPiece kind part after → Found bs (kind, n)
found_of bs part after kind n is long some piece =
    let front : take n bs ≡ part = ap (take n) is ∙ take_at part after n long in
    let back : drop n bs ≡ after = ap (drop n) is ∙ drop_at part after n long in
    let P : List ℕ → Type 0 = λ l. IsPiece kind l (drop n bs) in
    record { some = some; within = omega (arith, long, ap length is, length-append part after); is = subst P (sym front) (subst (IsPiece kind part) (sym back) piece) }
