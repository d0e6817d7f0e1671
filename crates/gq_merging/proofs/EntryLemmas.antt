-- Entries: where they stand, and how many values are in them.
use Rattle.std.proofs.Common.{◌≡◌, ℕ, zero, suc, ◌+◌, ◌<◌, List, [], ◌∷◌, length, map, get_or, sym, ◌∙◌, ap, subst, arith}
use Rattle.std.proofs.lemmas.List.{get_or-map, length-map}
use Rattle.gq_text.specs.declared.place.Span.{Span}
use Rattle.gq_names.specs.Repeats.{StandsAt}
use Rattle.gq_tree.specs.Forest.{none, more, row}
use Rattle.gq_tree.specs.Plain.{Val, Vals}

-- an item that is read from a list stands in what is seen of the list
pub stands_seen : {A : Type 0} (view : A → Val Span) (xs : List A) (i : ℕ) (x : A) → i < length xs → get_or xs i x ≡ x → StandsAt (map view xs) i (view x)
stands_seen view xs i x inside is = (subst (λ n. i < n) (sym (length-map xs view)) inside, get_or-map view xs i x (view x) inside ∙ ap view is)

-- how many values stand in a row, those in them included
abbrev pub size : Vals Span → ℕ
size none = 0
size (more l b r) = suc (size b + size r)

pub size_at : (ts : List (Val Span)) (i : ℕ) (t : Val Span) → StandsAt ts i t → size t.below < size (row ts)
size_at [] i t stands = absurd (omega (arith, stands.0))
size_at (x ∷ ts) zero t stands = subst (λ (z : Val Span). size z.below < size (row (x ∷ ts))) stands.1 (omega arith)
size_at (x ∷ ts) (suc i) t stands = let h = size_at ts i t (omega (arith, stands.0), stands.1) in omega (arith, h)
