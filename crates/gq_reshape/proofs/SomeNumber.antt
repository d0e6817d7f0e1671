-- Some number is free for a new fragment, where there are not too many definitions.
use Rattle.std.proofs.Common.{◌≡◌, ◌<◌, ◌≤◌, ◌^◌, ◌++◌, ◌+◌, ℕ, zero, suc, Bool, true, false, List, [], ◌∷◌, Contains, flat_map, map, length, refl, sym, ap, ◌∙◌, inl, inr, arith, length-append}
use Rattle.std.specs.Prelude.{codes, decimal}
use Rattle.std.specs.Cmp.{IsEquivalence}
use Rattle.std.specs.Cmp.Lexicographic.{bytes_decides}
use Rattle.std.specs.List.{AllByRecursion, IsDistinct, list_any}
use Rattle.std.specs.Str.{bytes_eq}
use Rattle.std.proofs.lemmas.Fmt.{decimal_injective}
use Rattle.std.proofs.lemmas.List.{append_cancel_left, length-map}
use Rattle.std.proofs.lemmas.Map.Made.{length-le_from_is_member}
use Rattle.gq_text.specs.declared.place.Span.{Span}
use Rattle.gq_tree.specs.Plain.{NameOf, Def, operation, fragment, type_system}
use Rattle.gq_types.specs.Entries.{Text}
use Rattle.gq_types.proofs.Gathered.{or_cases, first, from_flat, to_flat, from_map, to_map, from_filter, to_any}
use Rattle.gq_index.specs.declared.occurrence.Occurrence.{Occurrence}
use Rattle.gq_index.specs.Occurrences.{DefinitionOf, fragment_name, called, occurrences_of, fragment_definitions}
use Rattle.gq_reshape.specs.Naming.{extracted_name, IsFree, IsLeastFree}

same_texts : IsEquivalence bytes_eq
same_texts = record {
  refl = λ x. (bytes_decides x x).1 refl;
  symm = λ x y. symm x y (bytes_eq x y) (bytes_eq y x) refl refl;
  congr = λ x y z e. ap (λ (t : Text). bytes_eq t z) ((bytes_decides x y).0 e);
}
  where
    symm : (x y : Text) (a b : Bool) → bytes_eq x y ≡ a → bytes_eq y x ≡ b → bytes_eq x y ≡ bytes_eq y x
    symm x y true true e f = e ∙ sym f
    symm x y false false e f = e ∙ sym f
    symm x y true false e f = absurd (let g : true ≡ false = sym ((bytes_decides y x).1 (sym ((bytes_decides x y).0 e))) ∙ f in cc)
    symm x y false true e f = absurd (let g : true ≡ false = sym ((bytes_decides x y).1 (sym ((bytes_decides y x).0 f))) ∙ e in cc)

-- the names of the fragments
texts : List DefinitionOf → List Text
texts ds = map (λ (n : NameOf Span). n.text) (flat_map (λ (d : DefinitionOf). fragment_name d.definition) ds)

one_name : (d : Def Span) → length (fragment_name d) ≤ 1
one_name (operation kind name variables directives set braces place) = omega arith
one_name (fragment name on directives set braces place) = omega arith
one_name (type_system definition) = omega arith

few_names : (ds : List DefinitionOf) → length (flat_map (λ (d : DefinitionOf). fragment_name d.definition) ds) ≤ length ds
few_names [] = omega arith
few_names (d ∷ ds) =
    let one = one_name d.definition in
    let rest = few_names ds in
    omega (arith, one, rest, length-append (fragment_name d.definition) (flat_map (λ (d : DefinitionOf). fragment_name d.definition) ds))

few_texts : (ds : List DefinitionOf) → length (texts ds) ≤ length ds
unfolding texts
few_texts ds = let few = few_names ds in omega (arith, few, length-map (flat_map (λ (d : DefinitionOf). fragment_name d.definition) ds) (λ (n : NameOf Span). n.text))

-- a name that is taken is one of them
taken_stands : (ds : List DefinitionOf) (text : Text) → (IsFree ds text → ⊥) → list_any (bytes_eq text) (texts ds) ≡ true
unfolding texts
taken_stands ds text taken = by (fragment_definitions ds text) refl
  where
    by : (os : List Occurrence) → fragment_definitions ds text ≡ os → list_any (bytes_eq text) (texts ds) ≡ true
    by [] e = absurd (taken e)
    by (o ∷ os) e =
        let there : Contains (fragment_definitions ds text) o = Rattle.std.proofs.Common.subst (λ (l : List Occurrence). Contains l o) (sym e) (first o o os refl) in
        let d = from_flat (λ (d : DefinitionOf). occurrences_of d.file text (fragment_name d.definition)) ds o there in
        let n = from_map (λ (m : NameOf Span). let at : Occurrence = record { file = d.0.file; span = m.place } in at) (called text (fragment_name d.0.definition)) o d.2 in
        let k = from_filter (λ (m : NameOf Span). bytes_eq text m.text) (fragment_name d.0.definition) n.0 n.1 in
        let among = to_flat (λ (d : DefinitionOf). fragment_name d.definition) ds d.0 n.0 d.1 k.0 in
        to_any (bytes_eq text) (texts ds) n.0.text (to_map (λ (m : NameOf Span). m.text) (flat_map (λ (d : DefinitionOf). fragment_name d.definition) ds) n.0 among) k.1

-- the first names of new fragments
numbered_names : ℕ → List Text
numbered_names zero = []
numbered_names (suc n) = extracted_name (suc n) ∷ numbered_names n

how_many : (n : ℕ) → length (numbered_names n) ≡ n
unfolding numbered_names
how_many zero = refl
how_many (suc n) = ap suc (how_many n)

other_name : (m n : ℕ) → m < n → n < 2 ^ 64 → bytes_eq (extracted_name n) (extracted_name m) ≡ false
other_name m n less small = by (bytes_eq (extracted_name n) (extracted_name m)) refl
  where
    by : (b : Bool) → bytes_eq (extracted_name n) (extracted_name m) ≡ b → bytes_eq (extracted_name n) (extracted_name m) ≡ false
    by false e = e
    by true e =
        let same : extracted_name n ≡ extracted_name m = (bytes_decides (extracted_name n) (extracted_name m)).0 e in
        let number : n ≡ m = decimal_injective n m small (omega (arith, less, small)) (append_cancel_left (codes "Extracted") (decimal n) (decimal m) same) in
        absurd (omega (arith, less, number))

others : (k n : ℕ) → n < k → k < 2 ^ 64 → AllByRecursion (λ y. bytes_eq (extracted_name k) y ≡ false) (numbered_names n)
unfolding numbered_names
others k zero less small = tt
others k (suc n) less small = (other_name (suc n) k less small, others k n (omega (arith, less)) small)

all_distinct : (n : ℕ) → n < 2 ^ 64 → IsDistinct bytes_eq (numbered_names n)
unfolding numbered_names IsDistinct
all_distinct zero small = tt
all_distinct (suc n) small = (others (suc n) n (omega arith) small, all_distinct n (omega (arith, small)))

module _ (ds : List DefinitionOf) where
  module _ (taken : (m : ℕ) → 1 ≤ m → IsFree ds (extracted_name m) → ⊥) where
    among_texts : (n : ℕ) (q : Text) → list_any (bytes_eq q) (numbered_names n) ≡ true → list_any (bytes_eq q) (texts ds) ≡ true
    unfolding numbered_names
    among_texts zero q h = absurd (cc)
    among_texts (suc n) q h = elim (or_cases (bytes_eq q (extracted_name (suc n))) (list_any (bytes_eq q) (numbered_names n)) h) [
      | inl e ↦ ap (λ (t : Text). list_any (bytes_eq t) (texts ds)) ((bytes_decides q (extracted_name (suc n))).0 e) ∙ taken_stands ds (extracted_name (suc n)) (taken (suc n) (omega arith))
      | inr r ↦ among_texts n q r
    ]

    -- not all numbers are taken
    not_all : length ds < 2 ^ 63 → ⊥
    not_all small =
        let few = few_texts ds in
        let n : ℕ = length (texts ds) + 1 in
        let most : length (numbered_names n) ≤ length (texts ds) = length-le_from_is_member same_texts (numbered_names n) (texts ds) (all_distinct n (omega (arith, few, small))) (among_texts n) in
        omega (arith, most, how_many n)

  not_least : ((n : ℕ) → IsLeastFree ds n → ⊥) → (n m : ℕ) → m < n → 1 ≤ m → IsFree ds (extracted_name m) → ⊥
  not_least none zero m less some free = omega (arith, less)
  not_least none (suc n) m less some free = none m (record { positive = some; free = free; least = λ k from below f. not_least none n k (omega (arith, less, below)) from f })

  pub some_number : length ds < 2 ^ 63 → ((n : ℕ) → IsLeastFree ds n → ⊥) → ⊥
  some_number small none = not_all (λ m some free. not_least none (suc m) m (omega arith) some free) small
