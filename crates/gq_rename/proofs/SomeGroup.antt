-- A variable cannot be without a group.
use Rattle.std.proofs.Common.{◌≡◌, ◌<◌, ◌≤◌, ℕ, zero, suc, ◌+◌, List, [], ◌∷◌, Some, Contains, length, slice_get, refl, sym, ap, subst, arith, ◌⊎◌, inl, inr, ⊎_elim}
use Rattle.std.specs.Prelude.{slice_index}
use Rattle.std.specs.List.Sorted.{IsStrictlyIncreasing}
use Rattle.gq_types.proofs.Gathered.{nothing_in, first, later, cases_cons}
use Rattle.gq_index.specs.Occurrences.{DefinitionOf}
use Rattle.gq_index.specs.VariableGroups.{VariableGroup, itself, with_operation, with_fragment}
use Rattle.gq_rename.specs.Asks.{IsGroup}

below_length : {A : Type 0} (xs : List A) (k : ℕ) (x : A) → slice_get xs k ≡ Some x → k < length xs
below_length [] k x e = absurd (cc)
below_length (y ∷ ys) zero x e = omega arith
below_length (y ∷ ys) (suc k) x e = let i = below_length ys k x e in omega (arith, i)

increasing_cons : (x : ℕ) (xs : List ℕ) → IsStrictlyIncreasing xs → ((n : ℕ) → Contains xs n → x < n) → IsStrictlyIncreasing (x ∷ xs)
increasing_cons x [] h above k b = absurd (omega (arith, b))
increasing_cons x (y ∷ ys) h above zero b = above y (first y y ys refl)
increasing_cons x (y ∷ ys) h above (suc k) b =
    let e : suc (k + 1) ≡ suc k + 1 = omega arith in
    let P : ℕ → Type 0 = λ i. slice_index (x ∷ y ∷ ys) (suc k) < slice_index (x ∷ y ∷ ys) i in
    subst P e (h k (omega (arith, b)))

first_or_later : (a b : ℕ) → a ≤ b → (a ≡ b) ⊎ (suc a ≤ b)
first_or_later zero zero low = inl refl
first_or_later zero (suc b) low = inr (omega arith)
first_or_later (suc a) zero low = absurd (omega (arith, low))
first_or_later (suc a) (suc b) low = ⊎_elim (λ e. inl (ap suc e)) (λ less. inr (omega (arith, less))) (first_or_later a b (omega (arith, low)))

module _ (P : ℕ → Type 0) where
  -- the numbers between two of which something holds, each once and ascending
  record Numbers (from to : ℕ) : Type 0 where
    items : List ℕ
    ascending : IsStrictlyIncreasing items
    above : (n : ℕ) → Contains items n → from ≤ n
    each : (n : ℕ) → Contains items n → P n
    all : (n : ℕ) → from ≤ n → n < to → P n → Contains items n

  with_first : (from to : ℕ) → P from → Numbers (suc from) to → Numbers from to
  with_first from to p w = record {
    items = from ∷ w.items;
    ascending = increasing_cons from w.items w.ascending (λ n c. let i = w.above n c in omega (arith, i));
    above = λ n c. ⊎_elim (λ e. omega (arith, e)) (λ d. let i = w.above n d in omega (arith, i)) (cases_cons from n w.items c);
    each = λ n c. ⊎_elim (λ e. subst P e p) (λ d. w.each n d) (cases_cons from n w.items c);
    all = λ n low high q. ⊎_elim (λ e. first from n w.items e) (λ less. later from n w.items (w.all n less high q)) (first_or_later from n low);
  }

  without_first : (from to : ℕ) → (P from → ⊥) → Numbers (suc from) to → Numbers from to
  without_first from to never w = record {
    items = w.items;
    ascending = w.ascending;
    above = λ n c. let i = w.above n c in omega (arith, i);
    each = w.each;
    all = λ n low high q. w.all n (let other : from ≡ n → ⊥ = λ e. never (subst P (sym e) q) in omega (arith, low, other)) high q;
  }

  some_numbers : (m from to : ℕ) → from + m ≡ to → (Numbers from to → ⊥) → ⊥
  some_numbers zero from to e none = none (record {
    items = [];
    ascending = λ k b. absurd (omega (arith, b));
    above = λ n c. nothing_in n c;
    each = λ n c. nothing_in n c;
    all = λ n low high q. absurd (omega (arith, e, low, high));
  })
  some_numbers (suc m) from to e none =
      some_numbers m (suc from) to (omega (arith, e)) (λ w.
      let never : P from → ⊥ = λ p. none (with_first from to p w) in
      none (without_first from to never w))

-- each number of a group is that of a definition, or the one that it begins with
group_below : (ds : List DefinitionOf) (text : List ℕ) (definition n : ℕ) → VariableGroup ds text definition n → n < length ds + (definition + 1)
group_below ds text definition n itself = omega arith
group_below ds text definition n (with_operation g r) = let i = below_length ds n r.is_fragment.definition r.is_fragment.at in omega (arith, i)
group_below ds text definition n (with_fragment g r) = let i = below_length ds n r.is_operation.definition r.is_operation.at in omega (arith, i)

pub some_group : (ds : List DefinitionOf) (text : List ℕ) (definition : ℕ) → ((group : List ℕ) → IsGroup ds text definition group → ⊥) → ⊥
some_group ds text definition none =
    let to : ℕ = length ds + (definition + 1) in
    some_numbers (VariableGroup ds text definition) to 0 to (omega arith) (λ w. none w.items (record {
      ascending = w.ascending;
      members = λ n. ((λ c. w.each n c), (λ g. w.all n (omega arith) (group_below ds text definition n g) g));
    }))
