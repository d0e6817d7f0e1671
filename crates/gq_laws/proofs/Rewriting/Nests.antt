-- Selections whose places nest: where they stand beside a range.
use Rattle.std.proofs.Common.{◌≡◌, ◌⊎◌, inl, inr, ℕ, ◌+◌, ◌<◌, ◌≤◌, List, [], ◌∷◌, ◌++◌, Some, subst, arith}
use Rattle.gq_text.specs.declared.place.Span.{Span}
use Rattle.gq_tree.specs.Forest.{none, more, row}
use Rattle.gq_tree.specs.Plain.{Head, Sel, Sels}
use Rattle.gq_meaning.specs.Values.{Text}
use Rattle.gq_meaning.specs.Rewritten.{Static}
use Rattle.gq_rewritten.specs.Rewrites.{head_place}
use Rattle.gq_laws.specs.Rewriting.KnownBefore.{Each, EndsSet, ends_here, ends_within, ends_after}
use Rattle.gq_laws.specs.Rewriting.Places.{AreNested, run_start, run_end}

-- It does not begin with the range, and does not lie in it.
pub record IsOutside (start end : ℕ) (h : Head Span) : Type 0 where
  pub begins_elsewhere : (head_place h).start ≡ start → ⊥
  pub lies_elsewhere : start ≤ (head_place h).start → (head_place h).end ≤ end → ⊥

-- Selections that stand before a range or after it lie outside.
pub outside : (start end from to : ℕ) → start < end → (to ≤ start) ⊎ (end ≤ from) → (sels : Sels Span) → AreNested from to sels → Each (IsOutside start end) sels
outside start end from to l beside none nested = tt
outside start end from to l (inl before) (more h below rest) nested = (
  record { begins_elsewhere = λ e. omega (arith, nested.0, nested.1, nested.2); lies_elsewhere = λ a b. omega (arith, nested.0, nested.1, nested.2) },
  outside start end ((head_place h).start + 1) (head_place h).end l (inl (omega (arith, nested.2))) below nested.3,
  outside start end (head_place h).end to l (inl before) rest nested.4,
)
outside start end from to l (inr behind) (more h below rest) nested = (
  record { begins_elsewhere = λ e. omega (arith, nested.0, nested.1, nested.2); lies_elsewhere = λ a b. omega (arith, nested.0, nested.1, nested.2) },
  outside start end ((head_place h).start + 1) (head_place h).end l (inr (omega (arith, nested.0))) below nested.3,
  outside start end (head_place h).end to l (inr (omega (arith, nested.0, nested.1))) rest nested.4,
)

-- where consecutive selections end, that come after others which end at from
abbrev pub end_after : ℕ → List (Sel Span) → ℕ
end_after from [] = from
end_after from (s ∷ ss) = end_after (head_place s.label).end ss

pub end_is : (s : Sel Span) (ss : List (Sel Span)) (end : ℕ) → run_end (s ∷ ss) ≡ Some end → end_after (head_place s.label).end ss ≡ end
end_is s [] end e = cc
end_is s (t ∷ ss) end e = end_is t ss end e

pub rises : (from to : ℕ) (ss after : List (Sel Span)) → AreNested from to (row (ss ++ after)) → from ≤ end_after from ss
rises from to [] after nested = omega arith
rises from to (s ∷ ss) after nested =
    let i = rises (head_place s.label).end to ss after nested.4 in omega (arith, nested.0, nested.1, i)

ends_before : (from to : ℕ) (ss after : List (Sel Span)) → from ≤ to → AreNested from to (row (ss ++ after)) → end_after from ss ≤ to
ends_before from to [] after l nested = l
ends_before from to (s ∷ ss) after l nested = ends_before (head_place s.label).end to ss after nested.2 nested.4

-- where a run stands in selections, at any depth
pub record StandsIn (start end from to : ℕ) : Type 0 where
  pub begins : from ≤ start
  pub is_some : start < end
  pub ends : end ≤ to

run_stands_first : (start end from to : ℕ) (run others : List (Sel Span)) → run_start run ≡ Some start → run_end run ≡ Some end → AreNested from to (row (run ++ others)) → StandsIn start end from to
run_stands_first start end from to [] others first last nested = cc
run_stands_first start end from to (s ∷ ss) others first last nested =
    let begin : (head_place s.label).start ≡ start = cc in
    let finish = end_is s ss end last in
    let rise = rises (head_place s.label).end to ss others nested.4 in
    let low = ends_before (head_place s.label).end to ss others nested.2 nested.4 in
    record { begins = omega (arith, begin, nested.0); is_some = omega (arith, begin, nested.1, finish, rise); ends = omega (arith, finish, low) }

-- A run stands where the selections do in which it stands.
pub run_stands : (static : Static) (start end from to : ℕ) {t u : Text} {sels tail : Sels Span} (run others : List (Sel Span)) → EndsSet static t sels u tail → tail ≡ row (run ++ others) →
    run_start run ≡ Some start → run_end run ≡ Some end → AreNested from to sels → StandsIn start end from to
run_stands static start end from to run others ends_here e first last nested = run_stands_first start end from to run others first last (subst (AreNested from to) e nested)
run_stands static start end from to run others (ends_within {head} k ends) e first last nested =
    let i = run_stands static start end ((head_place head).start + 1) (head_place head).end run others ends e first last nested.3 in
    record { begins = omega (arith, nested.0, i.begins); is_some = i.is_some; ends = omega (arith, nested.2, i.ends) }
run_stands static start end from to run others (ends_after {head} ends) e first last nested =
    let i = run_stands static start end (head_place head).end to run others ends e first last nested.4 in
    record { begins = omega (arith, nested.0, nested.1, i.begins); is_some = i.is_some; ends = i.ends }
