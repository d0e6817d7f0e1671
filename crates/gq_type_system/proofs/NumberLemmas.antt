-- Entries, their numbers, and the first of a name.
use Rattle.std.proofs.Common.{◌≡◌, ℕ, zero, suc, ◌+◌, ◌<◌, ◌≤◌, Bool, true, false, if◌then◌else◌, List, [], ◌∷◌, Option, Some, None, inl, inr, Contains, length, get_or, refl, ap, subst, arith, nat_lt, position}
use Rattle.std.specs.List.{position_or_len}
use Rattle.std.proofs.lemmas.Bool.{ltb-true, ltb-false, lt-ltb}
use Rattle.std.proofs.lemmas.List.{get_or_default}
use Rattle.std.proofs.lemmas.List.Quantifiers.{position-Some}
use Rattle.std.proofs.lemmas.List.Sums.{fails_before_first}
use Rattle.gq_names.specs.Repeats.{StandsAt}
use Rattle.gq_names.proofs.RepeatLemmas.{contains_none, contains_later, contains_first, contains_cases}
use Rattle.gq_types.specs.Entries.{EntryOf, Numbered, numbered_from, numbered}
use Rattle.gq_type_system.specs.Helping.DefinedTwicePlaces.{is_before}

-- a numbered entry stands at its number
pub from_numbered : (k : ℕ) (es : List EntryOf) (n : Numbered) → Contains (numbered_from k es) n → (i : ℕ) × StandsAt es i n.entry × (n.number ≡ i + k)
from_numbered k [] n c = absurd (contains_none n c)
from_numbered k (e ∷ es) n c = elim (contains_cases (record { number = k; entry = e }) (numbered_from (k + 1) es) n c) [
  | inl q ↦ (0, (omega arith, ap (λ m. m.entry) q), omega (arith, ap (λ m. m.number) q))
  | inr r ↦ let x = from_numbered (k + 1) es n r in (suc x.0, (omega (arith, x.1.0), x.1.1), omega (arith, x.2))
]

pub to_numbered : (k : ℕ) (es : List EntryOf) (i : ℕ) (e : EntryOf) → StandsAt es i e → Contains (numbered_from k es) (record { number = i + k; entry = e })
to_numbered k [] i e s = absurd (omega (arith, s.0))
to_numbered k (x ∷ es) zero e s =
    let number : k ≡ 0 + k = omega arith in
    contains_first (record { number = k; entry = x }) (numbered_from (k + 1) es) (record { number = 0 + k; entry = e }) (λ d. record { number = number d; entry = s.1 d })
to_numbered k (x ∷ es) (suc i) e s =
    let number : i + (k + 1) ≡ suc i + k = omega arith in
    contains_later (record { number = k; entry = x }) (numbered_from (k + 1) es) (record { number = suc i + k; entry = e })
    (subst (λ m. Contains (numbered_from (k + 1) es) (record { number = m; entry = e })) number (to_numbered (k + 1) es i e (omega (arith, s.0), s.1)))

pub stands_at_number : (es : List EntryOf) (n : Numbered) → Contains (numbered es) n → StandsAt es n.number n.entry
stands_at_number es n c =
    let r = from_numbered 0 es n c in
    let same : r.0 ≡ n.number = omega (arith, r.2) in
    subst (λ i. StandsAt es i n.entry) same r.1

pub numbered_there : (es : List EntryOf) (i : ℕ) (e : EntryOf) → StandsAt es i e → Contains (numbered es) (record { number = i; entry = e })
numbered_there es i e s =
    let same : i + 0 ≡ i = omega arith in
    subst (λ m. Contains (numbered es) (record { number = m; entry = e })) same (to_numbered 0 es i e s)

module _ (p : EntryOf → Bool) (es : List EntryOf) where
  -- where the first that passes stands before a number, one that passes stands there
  pub from_before : (number : ℕ) (some : EntryOf) → is_before (position p es) number ≡ true → (n : Numbered) × Contains (numbered es) n × (n.number < number) × (p n.entry ≡ true)
  from_before number some h = by_first (position p es) refl h
    where
      by_first : (o : Option ℕ) → position p es ≡ o → is_before o number ≡ true → (n : Numbered) × Contains (numbered es) n × (n.number < number) × (p n.entry ≡ true)
      by_first None e b = absurd (cc)
      by_first (Some i) e b =
          let found = position-Some p es i some e in
          let it = get_or es i some in
          (record { number = i; entry = it }, numbered_there es i it (found.0, get_or_default es i it some found.0), ltb-true i number b, found.1)

  -- where one that passes stands before a number, so does the first that passes
  pub to_before : (number : ℕ) (n : Numbered) → Contains (numbered es) n → n.number < number → p n.entry ≡ true → is_before (position p es) number ≡ true
  to_before number n c lt passes = by_order (nat_lt (position_or_len p es) (length es)) refl
    where
      stands : StandsAt es n.number n.entry
      stands = stands_at_number es n c

      by_late : (b : Bool) → nat_lt n.number (position_or_len p es) ≡ b → position_or_len p es ≤ n.number
      by_late true e =
          let late : n.number < position_or_len p es = ltb-true n.number (position_or_len p es) e in
          let not_there = fails_before_first p es n.number n.entry late in
          let there = ap p stands.1 in
          absurd (cc)
      by_late false e = ltb-false n.number (position_or_len p es) e

      by_order : (b : Bool) → nat_lt (position_or_len p es) (length es) ≡ b → is_before (if b then Some (position_or_len p es) else None) number ≡ true
      by_order true e =
          let early = by_late (nat_lt n.number (position_or_len p es)) refl in
          lt-ltb (position_or_len p es) number (omega (arith, early, lt))
      by_order false e =
          let early = by_late (nat_lt n.number (position_or_len p es)) refl in
          let inside : position_or_len p es < length es = omega (arith, early, stands.0) in
          let yes = lt-ltb (position_or_len p es) (length es) inside in
          absurd (cc)
