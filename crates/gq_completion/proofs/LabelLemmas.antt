-- Names as completions: their order, and which there are.
use Rattle.std.proofs.Common.{◌≡◌, ◌↔◌, ℕ, List, [], ◌∷◌, map, sym, ap, subst, Contains, inl, inr}
use Rattle.std.specs.Cmp.Lexicographic.{slice_cmp}
use Rattle.std.specs.List.{AllByRecursion}
use Rattle.std.specs.List.Sorted.{IsStrictlySortedBy}
use Rattle.std.specs.Ordering.{nat_cmp}
use Rattle.std.specs.declared.cmp.Ordering.TheVariants.{Less}
use Rattle.gq_names.proofs.RepeatLemmas.{contains_none, contains_later, contains_first, contains_cases}
use Rattle.gq_completion.specs.declared.completion.Completion.{Completion}
use Rattle.gq_completion.specs.declared.completion.CompletionKind.{CompletionKind}
use Rattle.gq_completion.specs.Helping.Labels.{labelled}

all_labels : (kind : CompletionKind) (n : List ℕ) (ns : List (List ℕ)) → AllByRecursion (λ y. slice_cmp nat_cmp n y ≡ Less) ns →
    AllByRecursion (λ y. slice_cmp nat_cmp n y.label ≡ Less) (map (labelled kind) ns)
all_labels kind n [] h = tt
all_labels kind n (m ∷ ns) h = (h.0, all_labels kind n ns h.1)

pub sorted_labels : (kind : CompletionKind) (names : List (List ℕ)) → IsStrictlySortedBy (slice_cmp nat_cmp) names →
    IsStrictlySortedBy (λ (a b : Completion). slice_cmp nat_cmp a.label b.label) (map (labelled kind) names)
unfolding IsStrictlySortedBy
sorted_labels kind [] h = tt
sorted_labels kind (n ∷ ns) h = (all_labels kind n ns h.0, sorted_labels kind ns h.1)

pub from_labels : (kind : CompletionKind) (names : List (List ℕ)) (item : Completion) → Contains (map (labelled kind) names) item → (item.kind ≡ kind) × Contains names item.label
from_labels kind [] item c = absurd (contains_none item c)
from_labels kind (n ∷ ns) item c = elim (contains_cases (labelled kind n) (map (labelled kind) ns) item c) [
  | inl e ↦ (ap (λ (x : Completion). x.kind) (sym e), contains_first n ns item.label (ap (λ (x : Completion). x.label) e))
  | inr later ↦ let q = from_labels kind ns item later in (q.0, contains_later n ns item.label q.1)
]

pub to_labels : (kind : CompletionKind) (names : List (List ℕ)) (item : Completion) → item.kind ≡ kind → Contains names item.label → Contains (map (labelled kind) names) item
to_labels kind [] item k c = absurd (contains_none item.label c)
to_labels kind (n ∷ ns) item k c = elim (contains_cases n ns item.label c) [
  | inl e ↦ contains_first (labelled kind n) (map (labelled kind) ns) item (λ i. record { kind = sym k i; label = e i })
  | inr later ↦ contains_later (labelled kind n) (map (labelled kind) ns) item (to_labels kind ns item k later)
]

-- completions that have these labels, which are the names in order
pub labels_in_order : (kind : CompletionKind) (ordered : List (List ℕ)) (all : List Completion) → all ≡ map (labelled kind) ordered → IsStrictlySortedBy (slice_cmp nat_cmp) ordered →
    IsStrictlySortedBy (λ (a b : Completion). slice_cmp nat_cmp a.label b.label) all
labels_in_order kind ordered all e h = subst (λ (xs : List Completion). IsStrictlySortedBy (λ (a b : Completion). slice_cmp nat_cmp a.label b.label) xs) (sym e) (sorted_labels kind ordered h)

pub labels_exactly : (kind : CompletionKind) (ordered names : List (List ℕ)) (all : List Completion) → all ≡ map (labelled kind) ordered → ((name : List ℕ) → Contains ordered name ↔ Contains names name) →
    (item : Completion) → Contains all item ↔ ((item.kind ≡ kind) × Contains names item.label)
labels_exactly kind ordered names all e same item = (
  λ c. let q = from_labels kind ordered item (subst (λ xs. Contains xs item) e c) in (q.0, (same item.label).0 q.1),
  λ q. subst (λ xs. Contains xs item) (sym e) (to_labels kind ordered item q.0 ((same item.label).1 q.1)),
)
