-- Of one number more than there are definitions not all are taken.
use Rattle.std.proofs.Common.{◌≡◌, ◌⊎◌, inl, inr, ℕ, zero, suc, ◌<◌, ◌≤◌, ◌^◌, Bool, true, false, List, [], ◌∷◌, ◌++◌, length, map, codes, refl, sym, ap, ◌∙◌, arith}
use Rattle.std.specs.Prelude.{decimal, flat_map}
use Rattle.std.specs.List.{IsDistinct, AllByRecursion, list_any}
use Rattle.std.specs.Str.{bytes_eq}
use Rattle.std.proofs.lemmas.Fmt.{decimal_injective}
use Rattle.gq_text.specs.declared.place.Span.{Span}
use Rattle.gq_tree.specs.Plain.{Def, operation, fragment, type_system}
use Rattle.gq_types.specs.Entries.{Text}
use Rattle.gq_index.specs.declared.occurrence.Occurrence.{Occurrence}
use Rattle.gq_index.specs.Occurrences.{DefinitionOf, fragment_name, occurrences_of, fragment_definitions, definition_places}
use Rattle.gq_meaning.proofs.TextLemmas.{same_text}
use Rattle.gq_reshape.specs.Naming.{extracted_name, IsFree}

-- the numbers from 1 of which the last is the first, without those that a definition takes
abbrev Numbers : ℕ → List ℕ
Numbers zero = []
Numbers (suc n) = suc n ∷ Numbers n

-- each below the one before it
abbrev Descend : ℕ → List ℕ → Type 0
Descend bound [] = Unit {0}
Descend bound (m ∷ ms) = (m < bound) × Descend m ms

numbers_descend : (n : ℕ) → Descend (suc n) (Numbers n)
numbers_descend zero = tt
numbers_descend (suc n) = (omega arith, numbers_descend n)

numbers_count : (n : ℕ) → length (Numbers n) ≡ n
numbers_count zero = refl
numbers_count (suc n) = ap suc (numbers_count n)

-- all are taken
abbrev AreTaken : List DefinitionOf → List ℕ → Type 0
AreTaken ds [] = Unit {0}
AreTaken ds (m ∷ ms) = (IsFree ds (extracted_name m) → ⊥) × AreTaken ds ms

prefix_same : {X : Type 0} (p xs ys : List X) → p ++ xs ≡ p ++ ys → xs ≡ ys
prefix_same [] xs ys e = e
prefix_same (x ∷ p) xs ys e = prefix_same p xs ys (cc)

one_number : (m n : ℕ) → m < 2 ^ 64 → n < 2 ^ 64 → extracted_name m ≡ extracted_name n → m ≡ n
one_number m n a b e = decimal_injective m n a b (prefix_same (codes "Extracted") (decimal m) (decimal n) e)

-- whether the definition has the name
abbrev Takes : DefinitionOf → ℕ → Type 0
Takes d m = (occurrences_of d.file (extracted_name m) (fragment_name d.definition) ≡ []) → ⊥

takes_or_not : (d : DefinitionOf) (m : ℕ) → Takes d m ⊎ (occurrences_of d.file (extracted_name m) (fragment_name d.definition) ≡ [])
takes_or_not d m = by (occurrences_of d.file (extracted_name m) (fragment_name d.definition)) refl
  where
    by : (os : List Occurrence) → occurrences_of d.file (extracted_name m) (fragment_name d.definition) ≡ os → Takes d m ⊎ (occurrences_of d.file (extracted_name m) (fragment_name d.definition) ≡ [])
    by [] e = inr e
    by (o ∷ os) e = inl (λ none. let f : o ∷ os ≡ [] = sym e ∙ none in cc)

named : (file : ℕ) (d : Def Span) (text : Text) → (occurrences_of file text (fragment_name d) ≡ [] → ⊥) → (name : Text) × (text ≡ name) × ((other : Text) → (occurrences_of file other (fragment_name d) ≡ [] → ⊥) → other ≡ name)
named file (operation kind name variables directives set braces place) text h = absurd (h refl)
named file (fragment name on directives set braces place) text h = (name.text, own text h, own)
  where
    own : (other : Text) → (occurrences_of file other (name ∷ []) ≡ [] → ⊥) → other ≡ name.text
    own other some = by (bytes_eq other name.text) refl
      where
        by : (b : Bool) → bytes_eq other name.text ≡ b → other ≡ name.text
        by true t = same_text other name.text t
        by false t = absurd (some (ap (λ b. map (λ n. let o : Occurrence = record { file = file; span = n.place } in o) (Rattle.std.specs.Prelude.if◌then◌else◌ b (name ∷ []) [])) t))
named file (type_system definition) text h = absurd (h refl)

-- a definition takes one number at most
one_taken : (d : DefinitionOf) (m n : ℕ) → m < 2 ^ 64 → n < 2 ^ 64 → Takes d m → Takes d n → m ≡ n
one_taken d m n a b h k = let i = named d.file d.definition (extracted_name m) h in one_number m n a b (i.1 ∙ sym (i.2 (extracted_name n) k))

rest_taken : (d : DefinitionOf) (ds : List DefinitionOf) (m : ℕ) → occurrences_of d.file (extracted_name m) (fragment_name d.definition) ≡ [] → (IsFree (d ∷ ds) (extracted_name m) → ⊥) → IsFree ds (extracted_name m) → ⊥
rest_taken d ds m none taken free = taken (ap (λ (os : List Occurrence). os ++ fragment_definitions ds (extracted_name m)) none ∙ free)

-- none below a number that a definition takes is taken by it
all_rest : (d : DefinitionOf) (ds : List DefinitionOf) (bound : ℕ) (ms : List ℕ) → bound < 2 ^ 64 → Takes d bound → Descend bound ms → AreTaken (d ∷ ds) ms → AreTaken ds ms
all_rest d ds bound [] low own below taken = tt
all_rest d ds bound (m ∷ ms) low own below taken = (
  elim (takes_or_not d m) [
    | inl h ↦ absurd (let less = below.0 in let same = one_taken d m bound (omega (arith, less, low)) low h own in omega (arith, less, same))
    | inr none ↦ rest_taken d ds m none taken.0
  ],
  all_rest d ds bound ms low own (lower bound m ms below.0 below.1) taken.1,
)
  where
    lower : (bound m : ℕ) (ms : List ℕ) → m < bound → Descend m ms → Descend bound ms
    lower bound m [] less h = tt
    lower bound m (n ∷ ms) less h = (let a = h.0 in omega (arith, a, less), h.1)

record Left (ds : List DefinitionOf) (bound : ℕ) (ms : List ℕ) : Type 0 where
  rest : List ℕ
  descend : Descend bound rest
  taken : AreTaken ds rest
  one_less : length ms ≤ suc (length rest)

left : (d : DefinitionOf) (ds : List DefinitionOf) (bound : ℕ) (ms : List ℕ) → bound ≤ 2 ^ 64 → Descend bound ms → AreTaken (d ∷ ds) ms → Left ds bound ms
left d ds bound [] low below taken = record { rest = []; descend = tt; taken = tt; one_less = omega arith }
left d ds bound (m ∷ ms) low below taken = by (takes_or_not d m) (left d ds m ms (let less = below.0 in omega (arith, less, low)) below.1 taken.1)
  where
    lower : (ns : List ℕ) → Descend m ns → Descend bound ns
    lower [] h = tt
    lower (n ∷ ns) h = (let a = h.0 in let less = below.0 in omega (arith, a, less), h.1)

    by : Takes d m ⊎ (occurrences_of d.file (extracted_name m) (fragment_name d.definition) ≡ []) → Left ds m ms → Left ds bound (m ∷ ms)
    by (inl own) i = record {
      rest = ms;
      descend = lower ms below.1;
      taken = all_rest d ds m ms (let less = below.0 in omega (arith, less, low)) own below.1 taken.1;
      one_less = omega arith;
    }
    by (inr none) i = record {
      rest = m ∷ i.rest;
      descend = (below.0, i.descend);
      taken = (rest_taken d ds m none taken.0, i.taken);
      one_less = let few = i.one_less in omega (arith, few);
    }

few_taken : (ds : List DefinitionOf) (bound : ℕ) (ms : List ℕ) → bound ≤ 2 ^ 64 → Descend bound ms → AreTaken ds ms → length ms ≤ length ds
few_taken [] bound [] low below taken = omega arith
few_taken [] bound (m ∷ ms) low below taken = absurd (taken.0 refl)
few_taken (d ∷ ds) bound ms low below taken =
    let i = left d ds bound ms low below taken in
    let few = few_taken ds bound i.rest low i.descend i.taken in
    let one = i.one_less in
    omega (arith, few, one)

all_taken : (ds : List DefinitionOf) (n : ℕ) → ((m : ℕ) → 1 ≤ m → m ≤ n → IsFree ds (extracted_name m) → ⊥) → AreTaken ds (Numbers n)
all_taken ds zero each = tt
all_taken ds (suc n) each = (each (suc n) (omega arith) (omega arith), all_taken ds n (λ m some low. each m some (omega (arith, low))))

pub places_count : (ds : List DefinitionOf) → length (definition_places ds) ≡ length ds
places_count [] = refl
places_count (d ∷ ds) = ap suc (places_count ds)

pub one_is_free : (ds : List DefinitionOf) (n : ℕ) → length ds < n → n < 2 ^ 64 → ((m : ℕ) → 1 ≤ m → m ≤ n → IsFree ds (extracted_name m) → ⊥) → ⊥
one_is_free ds n more low each =
    let few = few_taken ds (suc n) (Numbers n) (omega (arith, low)) (numbers_descend n) (all_taken ds n each) in
    let count = numbers_count n in
    omega (arith, few, count, more)
