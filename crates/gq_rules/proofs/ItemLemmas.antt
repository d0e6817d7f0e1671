-- What is told of each reading is told of one.
use Rattle.std.proofs.Common.{◌≡◌, ◌↔◌, ℕ, zero, suc, ◌+◌, Bool, true, false, List, [], ◌∷◌, Option, Some, None, Contains, refl, sym, subst, arith, ⊎_elim, inl, inr, slice_get, if◌then◌else◌}
use Rattle.std.proofs.lemmas.List.Elements.{Contains-append_left, Contains-append_right, Contains-append_cases}
use Rattle.std.specs.List.{list_any}
use Rattle.gq_text.specs.declared.place.Span.{Span}
use Rattle.gq_tree.specs.Plain.{TypeSystemOf}
use Rattle.gq_names.proofs.RepeatLemmas.{contains_none, contains_first, contains_cases}
use Rattle.gq_fault.specs.declared.fault.Fault.{Fault}
use Rattle.gq_tree.specs.Readings as reading
use Rattle.gq_tree.specs.Readings.{ParsedOf, definitions_read}
use Rattle.gq_rules.specs.Unread.{IsUnread}
use Rattle.gq_rules.specs.Unread as unread
use Rattle.gq_known.specs.ExecutableDefinitions.{is_executable, first_of_type_system, IsMixed}
use Rattle.gq_rules.specs.Helping.Places.{unread_at, mixed_fault, mixed_at, each_from}

-- where it stands
pub from_each : (f : ℕ → ParsedOf → List Fault) (k : ℕ) (rs : List ParsedOf) (fault : Fault) → Contains (each_from f k rs) fault →
    (n : ℕ) × (r : ParsedOf) × (slice_get rs n ≡ Some r) × Contains (f (k + n) r) fault
from_each f k [] fault c = absurd (contains_none fault c)
from_each f k (r ∷ rs) fault c = ⊎_elim
    (λ a. (zero, r, refl, subst (λ m. Contains (f m r) fault) (omega arith) a))
    (λ b. let q = from_each f (k + 1) rs fault b in (suc q.0, q.1, q.2, subst (λ m. Contains (f m q.1) fault) (omega arith) q.3))
    (Contains-append_cases (f k r) (each_from f (k + 1) rs) fault c)

pub to_each : (f : ℕ → ParsedOf → List Fault) (k : ℕ) (rs : List ParsedOf) (n : ℕ) (r : ParsedOf) (fault : Fault) →
    slice_get rs n ≡ Some r → Contains (f (k + n) r) fault → Contains (each_from f k rs) fault
to_each f k [] n r fault e c = absurd (cc)
to_each f k (s ∷ rs) zero r fault e c =
    Contains-append_left (f k s) (each_from f (k + 1) rs) fault (subst (λ m. Contains (f m s) fault) (omega arith) (subst (λ x. Contains (f (k + zero) x) fault) (sym (some_is s r e)) c))
  where
    some_is : (a b : ParsedOf) → Some a ≡ Some b → a ≡ b
    some_is a b q = cc
to_each f k (s ∷ rs) (suc n) r fault e c =
    Contains-append_right (f k s) (each_from f (k + 1) rs) fault (to_each f (k + 1) rs n r fault e (subst (λ m. Contains (f m r) fault) (omega arith) c))

-- the same, the first number being 0
from_all : (f : ℕ → ParsedOf → List Fault) (rs : List ParsedOf) (fault : Fault) → Contains (each_from f 0 rs) fault →
    (n : ℕ) × (r : ParsedOf) × (slice_get rs n ≡ Some r) × Contains (f n r) fault
from_all f rs fault c = let q = from_each f 0 rs fault c in (q.0, q.1, q.2, subst (λ m. Contains (f m q.1) fault) (omega arith) q.3)

to_all : (f : ℕ → ParsedOf → List Fault) (rs : List ParsedOf) (n : ℕ) (r : ParsedOf) (fault : Fault) →
    slice_get rs n ≡ Some r → Contains (f n r) fault → Contains (each_from f 0 rs) fault
to_all f rs n r fault e c = to_each f 0 rs n r fault e (subst (λ m. Contains (f m r) fault) (omega arith) c)

only : {X : Type 0} (x z : X) → Contains (x ∷ []) z → z ≡ x
only x z c = elim (contains_cases x [] z c) [
  | inl e ↦ sym e
  | inr n ↦ absurd (contains_none z n)
]

-- texts without a tree
module _ (readings : List ParsedOf) (fault : Fault) where
  from_unread_at : (n : ℕ) (r : ParsedOf) → slice_get readings n ≡ Some r → Contains (unread_at n r) fault → IsUnread readings fault
  from_unread_at n (reading.tree document) e c = absurd (contains_none fault c)
  from_unread_at n (reading.syntax place) e c = unread.syntax e (only _ fault c)
  from_unread_at n (reading.limit place) e c = unread.limit e (only _ fault c)

  pub unread_are : Contains (each_from unread_at 0 readings) fault ↔ IsUnread readings fault
  unread_are = (
    (λ c. let q = from_all unread_at readings fault c in from_unread_at q.0 q.1 q.2 q.3),
    to_unread,
  )
    where
      to_unread : IsUnread readings fault → Contains (each_from unread_at 0 readings) fault
      to_unread (unread.syntax {file = n} e is) = to_all unread_at readings n _ fault e (contains_first _ [] _ (sym is))
      to_unread (unread.limit {file = n} e is) = to_all unread_at readings n _ fault e (contains_first _ [] _ (sym is))

-- mixed documents
module _ (readings : List ParsedOf) (fault : Fault) where
  from_mixed : (n : ℕ) (r : ParsedOf) → slice_get readings n ≡ Some r → (t : Bool) → list_any is_executable (definitions_read r) ≡ t →
      (o : Option (TypeSystemOf Span)) → first_of_type_system (definitions_read r) ≡ o → Contains (if t then mixed_fault n o else []) fault → IsMixed readings fault
  from_mixed n r e true h None g c = absurd (contains_none fault c)
  from_mixed n r e true h (Some d) g c = record { file = n; reading = r; at = e; executable = h; definition = d; first = g; is = only _ fault c }
  from_mixed n r e false h o g c = absurd (contains_none fault c)

  to_mixed : IsMixed readings fault → Contains (each_from mixed_at 0 readings) fault
  to_mixed m = to_all mixed_at readings m.file m.reading fault m.at
      (subst (λ t. Contains (if t then mixed_fault m.file (first_of_type_system (definitions_read m.reading)) else []) fault) (sym m.executable)
      (subst (λ o. Contains (mixed_fault m.file o) fault) (sym m.first) (contains_first _ [] _ (sym m.is))))

  pub mixed_are : Contains (each_from mixed_at 0 readings) fault ↔ IsMixed readings fault
  mixed_are = (
    (λ c. let q = from_all mixed_at readings fault c in from_mixed q.0 q.1 q.2 (list_any is_executable (definitions_read q.1)) refl (first_of_type_system (definitions_read q.1)) refl q.3),
    to_mixed,
  )
