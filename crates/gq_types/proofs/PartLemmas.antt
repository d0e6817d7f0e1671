-- The parts of a type are those of the definitions and extensions that belong to it.
use Rattle.std.proofs.Common.{◌≡◌, ℕ, zero, suc, ◌+◌, Bool, true, List, [], ◌∷◌, refl, sym, ap, ◌∙◌, subst, arith, Contains, ⊎_elim, Option, Some}
use Rattle.std.specs.Prelude.{nat_eq, slice_get}
use Rattle.std.specs.List.{list_any}
use Rattle.std.specs.Option.{option_map_or}
use Rattle.gq_text.specs.declared.place.Span.{Span}
use Rattle.gq_tree.specs.Plain.{BodyOf}
use Rattle.gq_types.specs.Entries.{EntryOf, Numbered, numbered, numbered_from}
use Rattle.gq_types.specs.Joined.{In, owner, joined, body_in, parts_of, parts_in}
use Rattle.gq_types.specs.Look.{joined_numbers}
use Rattle.gq_types.specs.LookUps.{parts_of_entry, any_part}
use Rattle.gq_types.proofs.Gathered.{nothing_in, first, later, cases_cons, from_flat, to_flat, from_map, to_map, from_filter, from_any, to_any}

-- an entry and its number
pub from_numbered : (all : List EntryOf) (k : ℕ) (es : List EntryOf) (n : Numbered) → ((i : ℕ) → slice_get all (i + k) ≡ slice_get es i) → Contains (numbered_from k es) n → slice_get all n.number ≡ Some n.entry
from_numbered all k [] n h c = nothing_in n c
from_numbered all k (e ∷ es) n h c = ⊎_elim
    (λ same.
    let there : k ≡ 0 + k = omega arith in
    let here : slice_get all k ≡ Some e = ap (slice_get all) there ∙ h 0 in
    subst (λ (m : Numbered). slice_get all m.number ≡ Some m.entry) same here)
    (λ later. from_numbered all (k + 1) es n (λ i. ap (slice_get all) (omega arith) ∙ h (suc i)) later)
    (cases_cons (record { number = k; entry = e }) n (numbered_from (k + 1) es) c)

pub numbered_at : (es : List EntryOf) (n : Numbered) → Contains (numbered es) n → slice_get es n.number ≡ Some n.entry
numbered_at es n c = from_numbered es 0 es n (λ i. ap (slice_get es) (omega arith)) c

to_numbered : (k : ℕ) (es : List EntryOf) (i : ℕ) (e : EntryOf) → slice_get es i ≡ Some e → Contains (numbered_from k es) (record { number = i + k; entry = e })
to_numbered k [] i e h = absurd (cc)
to_numbered k (x ∷ es) zero e h =
    let same : x ≡ e = cc in
    let there : k ≡ 0 + k = omega arith in
    let here = first (record { number = k; entry = x }) (record { number = k; entry = e }) (numbered_from (k + 1) es) (ap (λ (y : EntryOf). let n : Numbered = record { number = k; entry = y } in n) same) in
    subst (λ (j : ℕ). Contains (record { number = k; entry = x } ∷ numbered_from (k + 1) es) (record { number = j; entry = e })) there here
to_numbered k (x ∷ es) (suc i) e h =
    let there = to_numbered (k + 1) es i e h in
    let same : i + (k + 1) ≡ suc i + k = omega arith in
    later (record { number = k; entry = x }) (record { number = suc i + k; entry = e }) (numbered_from (k + 1) es)
    (subst (λ (j : ℕ). Contains (numbered_from (k + 1) es) (record { number = j; entry = e })) same there)

pub numbered_has : (es : List EntryOf) (i : ℕ) (e : EntryOf) → slice_get es i ≡ Some e → Contains (numbered es) (record { number = i; entry = e })
numbered_has es i e h =
    let same : i + 0 ≡ i = omega arith in
    subst (λ (j : ℕ). Contains (numbered es) (record { number = j; entry = e })) same (to_numbered 0 es i e h)

-- the entries that belong to a number
joined_at : (es : List EntryOf) (number : ℕ) (n : Numbered) → Contains (joined es number) n → slice_get es n.number ≡ Some n.entry
joined_at es number n c = numbered_at es n (from_filter (λ (m : Numbered). nat_eq (owner es m) number) (numbered es) n c).0

module _ {A : Type 0} (parts : BodyOf Span → List A) (es : List EntryOf) (number : ℕ) where
  abbrev put : Numbered → List (In A)
  put n = parts_in parts n.entry

  at_entry : (n : Numbered) → Contains (joined es number) n → parts_of_entry parts es n.number ≡ parts (body_in n.entry.definition)
  at_entry n c = ap (λ (o : Option EntryOf). option_map_or (λ e. parts (body_in e.definition)) o []) (joined_at es number n c)

  pub from_parts : (p : In A) → Contains (parts_of parts es number) p → (k : ℕ) × Contains (joined_numbers es number) k × Contains (parts_of_entry parts es k) p.it
  from_parts p c =
      let n = from_flat put (joined es number) p c in
      let x = from_map (λ x. let q : In A = record { file = n.0.entry.file; it = x } in q) (parts (body_in n.0.entry.definition)) p n.2 in
      let same : x.0 ≡ p.it = ap (λ (q : In A). q.it) x.2 in
      (n.0.number, to_map (λ (m : Numbered). m.number) (joined es number) n.0 n.1, subst (λ xs. Contains xs p.it) (sym (at_entry n.0 n.1)) (subst (λ y. Contains (parts (body_in n.0.entry.definition)) y) same x.1))

  pub to_parts : (k : ℕ) (x : A) → Contains (joined_numbers es number) k → Contains (parts_of_entry parts es k) x → (p : In A) × Contains (parts_of parts es number) p × (p.it ≡ x)
  to_parts k x c d =
      let n = from_map (λ (m : Numbered). m.number) (joined es number) k c in
      let there = subst (λ (j : ℕ). Contains (parts_of_entry parts es j) x) (sym n.2) d in
      let here = subst (λ xs. Contains xs x) (at_entry n.0 n.1) there in
      let p : In A = record { file = n.0.entry.file; it = x } in
      (p, to_flat put (joined es number) n.0 p n.1 (to_map (λ x. let q : In A = record { file = n.0.entry.file; it = x } in q) (parts (body_in n.0.entry.definition)) x here), refl)

  pub from_any_part : (test : A → Bool) → any_part test parts es (joined_numbers es number) ≡ true → (p : In A) × Contains (parts_of parts es number) p × (test p.it ≡ true)
  from_any_part test h =
      let k = from_any (λ k. list_any test (parts_of_entry parts es k)) (joined_numbers es number) h in
      let x = from_any test (parts_of_entry parts es k.0) k.2 in
      let p = to_parts k.0 x.0 k.1 x.1 in
      (p.0, p.1, subst (λ y. test y ≡ true) (sym p.2) x.2)

  pub to_any_part : (test : A → Bool) (p : In A) → Contains (parts_of parts es number) p → test p.it ≡ true → any_part test parts es (joined_numbers es number) ≡ true
  to_any_part test p c h =
      let k = from_parts p c in
      to_any (λ k. list_any test (parts_of_entry parts es k)) (joined_numbers es number) k.0 k.1 (to_any test (parts_of_entry parts es k.0) p.it k.2 h)
