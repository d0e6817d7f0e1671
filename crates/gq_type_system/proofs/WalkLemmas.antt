-- What is told at each number, and one turn of the loop over the numbers.
use Rattle.std.proofs.Common.{◌≡◌, ℕ, zero, suc, ◌+◌, ◌<◌, List, [], ◌∷◌, ◌++◌, inl, inr, Contains, length, drop, sym, ap, ◌∙◌, subst, arith, append_assoc}
use Rattle.std.proofs.Math.Seq.{drop-cons}
use Rattle.std.proofs.lemmas.List.{length-map}
use Rattle.std.proofs.lemmas.List.Elements.{Contains-append_left, Contains-append_right, Contains-append_cases}
use Rattle.gq_fault.specs.declared.fault.Fault.{Fault}
use Rattle.gq_names.proofs.RepeatLemmas.{contains_none}
use Rattle.gq_types.specs.declared.entry.Entry.{Entry}
use Rattle.gq_types.specs.Entries.{EntryOf, entry_view, entries_view}
use Rattle.gq_type_system.specs.Helping.Walk.{at_each_number}

-- the numbers of the code's entries are those of the entries
pub is_number : (entries : List Entry) (es : List EntryOf) (number : ℕ) → entries_view entries ≡ es → number < length entries → number < length es
is_number entries es number are inside =
    let long = length-map entries entry_view in
    let all = ap length are in
    omega (arith, long, all, inside)

pub as_many : (entries : List Entry) (es : List EntryOf) → entries_view entries ≡ es → length entries ≡ length es
as_many entries es are = sym (length-map entries entry_view) ∙ ap length are

module _ (f : ℕ → List Fault) where
  pub from_numbers : (k : ℕ) (es : List EntryOf) (fault : Fault) → Contains (at_each_number f k es) fault → (i : ℕ) × (i < length es) × Contains (f (i + k)) fault
  from_numbers k [] fault c = absurd (contains_none fault c)
  from_numbers k (e ∷ es) fault c = elim (Contains-append_cases (f k) (at_each_number f (k + 1) es) fault c) [
    | inl a ↦ let same : k ≡ 0 + k = omega arith in (0, omega arith, subst (λ n. Contains (f n) fault) same a)
    | inr b ↦
        let r = from_numbers (k + 1) es fault b in
        let same : r.0 + (k + 1) ≡ suc r.0 + k = omega arith in
        (suc r.0, omega (arith, r.1), subst (λ n. Contains (f n) fault) same r.2)
  ]

  pub to_numbers : (k : ℕ) (es : List EntryOf) (fault : Fault) (i : ℕ) → i < length es → Contains (f (i + k)) fault → Contains (at_each_number f k es) fault
  to_numbers k [] fault i lt c = absurd (omega (arith, lt))
  to_numbers k (e ∷ es) fault zero lt c =
      let same : 0 + k ≡ k = omega arith in
      Contains-append_left (f k) (at_each_number f (k + 1) es) fault (subst (λ n. Contains (f n) fault) same c)
  to_numbers k (e ∷ es) fault (suc i) lt c =
      let same : suc i + k ≡ i + (k + 1) = omega arith in
      Contains-append_right (f k) (at_each_number f (k + 1) es) fault (to_numbers (k + 1) es fault i (omega (arith, lt)) (subst (λ n. Contains (f n) fault) same c))

  front : (number i : ℕ) (es : List EntryOf) → i < length es → at_each_number f number (drop i es) ≡ f number ++ at_each_number f (number + 1) (drop (i + 1) es)
  front number i [] lt = absurd (omega (arith, lt))
  front number i (e ∷ es) lt =
      let next : suc i ≡ i + 1 = omega arith in
      ap (at_each_number f number) (drop-cons (e ∷ es) i e lt) ∙ ap (λ j. f number ++ at_each_number f (number + 1) (drop j (e ∷ es))) next

  pub next_number : (es : List EntryOf) (number : ℕ) (so_far more whole : List Fault) → number < length es → more ≡ so_far ++ f number →
      so_far ++ at_each_number f number (drop number es) ≡ whole → more ++ at_each_number f (number + 1) (drop (number + 1) es) ≡ whole
  next_number es number so_far more whole inside told before =
      let rest = at_each_number f (number + 1) (drop (number + 1) es) in
      ap (λ xs. xs ++ rest) told ∙ append_assoc so_far (f number) rest ∙ ap (λ xs. so_far ++ xs) (sym (front number number es inside)) ∙ before
