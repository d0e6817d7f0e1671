-- A text that passes no limit has not too many tokens, and they do not nest too deep.
use Rattle.std.proofs.Common.{◌≡◌, ◌⊎◌, inl, inr, ⊎_elim, ℕ, zero, suc, ◌+◌, ◌^◌, ◌<◌, ◌≤◌, List, [], ◌∷◌, ◌++◌, length, take, drop, refl, sym, ap, subst, ◌∙◌, arith, append_assoc, length-append}
use Rattle.std.proofs.lemmas.Bool.{cases_lt}
use Rattle.std.proofs.lemmas.List.{append-nil, take-append-drop, length-take-le}
use Rattle.gq_lex.specs.Tokens.{Lexeme, Reads, IsLimitAt}
use Rattle.gq_tree.specs.Plain.{Def}
use Rattle.gq_parse.specs.Grammar.{Tokens}
use Rattle.gq_parse.specs.Limits.{opened, closed, IsNestedWithin, IsTooDeepAt, PassesLimitAt}
use Rattle.gq_parse.proofs.Nesting.{nested_push, nested_whole}
use Rattle.gq_laws.proofs.Cutting.Deriving.{AreTreeOf, DerivesAs}
use Rattle.gq_laws.proofs.Cutting.Reading.{UpTo, up_to, ReadsLike}

-- where one token is too many
limit_at : (text : List ℕ) (all others : Tokens) → Reads text all → 2 ^ 20 < length all → drop (2 ^ 20) all ≡ others → (place : ℕ) × IsLimitAt text place
limit_at text all [] reads many is =
    let none : all ≡ take (2 ^ 20) all = sym (take-append-drop (2 ^ 20) all) ∙ ap (λ (l : Tokens). take (2 ^ 20) all ++ l) is ∙ append-nil (take (2 ^ 20) all) in
    absurd (omega (arith, many, ap length none, length-take-le (2 ^ 20) all (omega (arith, many))))
limit_at text all (t ∷ others) reads many is =
    let parts : all ≡ take (2 ^ 20) all ++ t ∷ others = sym (take-append-drop (2 ^ 20) all) ∙ ap (λ (l : Tokens). take (2 ^ 20) all ++ l) is in
    let u : UpTo 0 text (take (2 ^ 20) all) t others [] = up_to (take (2 ^ 20) all) t others reads parts in (
      length u.front,
      record {
        tokens = take (2 ^ 20) all;
        rest = t.text ++ u.behind;
        before = u.first;
        many = length-take-le (2 ^ 20) all (omega (arith, many));
        at = sym (length-append u.front (t.text ++ u.behind)) ∙ ap length (sym u.cut);
        next = (t.kind, t.text, u.behind, refl, u.own);
      },
    )

-- tokens nest within the limit, or one of them is too deep
nested_none : IsNestedWithin 100 []
nested_none zero = omega arith
nested_none (suc n) = omega arith

abbrev NestedOrDeep : Tokens → Type 0
NestedOrDeep ts = IsNestedWithin 100 ts ⊎ ((place : ℕ) × IsTooDeepAt ts place)

one_more : (before after : Tokens) (t : Lexeme) → IsNestedWithin 100 before → (IsNestedWithin 100 (before ++ t ∷ []) → NestedOrDeep ((before ++ t ∷ []) ++ after)) → NestedOrDeep (before ++ t ∷ after)
one_more before after t nested again = ⊎_elim deep onward (cases_lt (closed (before ++ t ∷ []) + 100) (opened (before ++ t ∷ [])))
  where
    deep : closed (before ++ t ∷ []) + 100 < opened (before ++ t ∷ []) → NestedOrDeep (before ++ t ∷ after)
    deep h = inr (
      t.span.start,
      record {
        before = before;
        token = t;
        after = after;
        cut = refl;
        within = nested;
        passes = λ more. let whole = nested_whole 100 (before ++ t ∷ []) more in absurd (omega (arith, whole, h));
        at = refl;
      },
    )

    onward : opened (before ++ t ∷ []) ≤ closed (before ++ t ∷ []) + 100 → NestedOrDeep (before ++ t ∷ after)
    onward h = subst NestedOrDeep (append_assoc before (t ∷ []) after) (again (nested_push 100 before t nested h))

nested_or_deep : (before after : Tokens) → IsNestedWithin 100 before → NestedOrDeep (before ++ after)
nested_or_deep before [] nested = inl (subst (IsNestedWithin 100) (sym (append-nil before)) nested)
nested_or_deep before (t ∷ after) nested = one_more before after t nested (λ n. nested_or_deep (before ++ t ∷ []) after n)

pub few_within : (text : List ℕ) (all : Tokens) → Reads text all → ((at : ℕ) → PassesLimitAt text at → ⊥) → length all ≤ 2 ^ 20
few_within text all reads passes_none =
    ⊎_elim (λ (h : 2 ^ 20 < length all). let l = limit_at text all (drop (2 ^ 20) all) reads h refl in absurd (passes_none l.0 (inl l.1))) (λ (h : length all ≤ 2 ^ 20). h)
    (cases_lt (2 ^ 20) (length all))

pub nested_within : (text : List ℕ) (all : Tokens) → Reads text all → ((at : ℕ) → PassesLimitAt text at → ⊥) → IsNestedWithin 100 all
nested_within text all reads passes_none =
    ⊎_elim (λ (h : IsNestedWithin 100 all). h) (λ (h : (place : ℕ) × IsTooDeepAt all place). absurd (passes_none h.0 (inr (all, reads, h.1)))) (nested_or_deep [] all nested_none)

-- a text that passes no limit derives the tree of tokens that it reads as
pub derives_within : (text : List ℕ) (tokens : Tokens) (new : List (Def (Unit {0}))) → ((at : ℕ) → PassesLimitAt text at → ⊥) → ReadsLike text tokens [] → AreTreeOf new tokens → DerivesAs text new
derives_within text tokens new passes_none reads are =
    let like = reads 0 in
    let t = are like.others like.alike in
    record {
      tree = t.0;
      derives = record {
        tokens = like.others;
        reads = like.reads;
        few = few_within text like.others like.reads passes_none;
        nested = nested_within text like.others like.reads passes_none;
        derived = t.1;
      };
      is = t.2;
    }
