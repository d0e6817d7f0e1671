-- What is reached in the graph of a variable's group is the group.
use Rattle.std.proofs.Common.{append-nil, ◌≡◌, ◌↔◌, ℕ, ◌+◌, ◌-◌, ◌<◌, Bool, true, false, if◌then◌else◌, List, [], ◌∷◌, ◌++◌, map, refl, sym, ◌∙◌, ap, subst, arith, Contains, ⊎_elim}
use Rattle.std.specs.Bool.{nat_lt}
use Rattle.std.specs.Prelude.{All}
use Rattle.std.proofs.lemmas.Bool.{false≢true, lt-ltb, le-ltb}
use Rattle.std.proofs.lemmas.List.Elements.{All-weaker, All-contains_itself, Contains-append_left, Contains-append_right, Contains-append_cases}
use Rattle.gq_graph.specs.Reach.{Reach, start, step}
use Rattle.gq_types.proofs.Gathered.{nothing_in, first, only, from_map, to_map}
use Rattle.gq_index.specs.Helping.GroupGraphs.{Sharing, leads_of_member, leads_of_reached, leads_of_leading, leads_of, NumberGroup, itself, with_operation, with_fragment, IsSharing}

choose_true : {X : Type 0} (b : Bool) (x y : X) → b ≡ true → (if b then x else y) ≡ x
choose_true true x y e = refl
choose_true false x y e = absurd (false≢true e)

choose_false : {X : Type 0} (b : Bool) (x y : X) → b ≡ false → (if b then x else y) ≡ y
choose_false false x y e = refl
choose_false true x y e = absurd (false≢true (sym e))

-- a number among others that were put further on
from_shifted : (by n : ℕ) (ns : List ℕ) → Contains (map (λ j. by + j) ns) n → (j : ℕ) × Contains ns j × (n ≡ by + j)
from_shifted by n ns h = let m = from_map (λ j. by + j) ns n h in (m.0, m.1, sym m.2)

-- a way that begins one step earlier
earlier : (next : ℕ → List ℕ) (j k f : ℕ) → Contains (next j) k → Reach (next k) next f → Reach (next j) next f
earlier next j k f one (start found) = step (start one) found
earlier next j k f one (step way found) = step (earlier next j k _ one way) found

module _ (s : Sharing) where
  at_member : (k : ℕ) → k < s.count → leads_of s k ≡ leads_of_member s k
  at_member k h = choose_true (nat_lt k s.count) (leads_of_member s k) _ (lt-ltb k s.count h)

  at_reached : (k : ℕ) → k < s.count → leads_of s (s.count + k) ≡ leads_of_reached s k
  at_reached k h =
      let same : (s.count + k) - s.count ≡ k = omega arith in
      choose_false (nat_lt (s.count + k) s.count) _ _ (le-ltb (s.count + k) s.count (omega arith))
      ∙ choose_true (nat_lt (s.count + k) (s.count + s.count)) _ _ (lt-ltb (s.count + k) (s.count + s.count) (omega (arith, h)))
      ∙ ap (leads_of_reached s) same

  at_leading : (k : ℕ) → leads_of s ((s.count + s.count) + k) ≡ leads_of_leading s k
  at_leading k =
      let same : ((s.count + s.count) + k) - (s.count + s.count) ≡ k = omega arith in
      choose_false (nat_lt ((s.count + s.count) + k) s.count) _ _ (le-ltb ((s.count + s.count) + k) s.count (omega arith))
      ∙ choose_false (nat_lt ((s.count + s.count) + k) (s.count + s.count)) _ _ (le-ltb ((s.count + s.count) + k) (s.count + s.count) (omega arith))
      ∙ ap (leads_of_leading s) same

module _ (s : Sharing) (are : IsSharing s) (first_one : ℕ) (inside : first_one < s.count) where
  abbrev pub Group : ℕ → Type 0
  Group = NumberGroup s first_one

  -- what a number of the graph stands for
  data Means : ℕ → Type 0 where
    member : {k : ℕ} → k < s.count → Group k → Means k
    reached : {o k : ℕ} → k < s.count → Group o → s.is_operation o ≡ true → Reach (s.spread_in o) s.spread_in k → Means (s.count + k)
    leading : {f k : ℕ} → k < s.count → Group f → s.uses f ≡ true → s.is_operation f ≡ false → Reach (s.spread_in k) s.spread_in f → Means ((s.count + s.count) + k)

  sound_member : (k n : ℕ) → k < s.count → Group k → Contains (leads_of_member s k) n → Means n
  sound_member k n h g there = by_kind (s.is_operation k) (s.uses k) refl refl there
    where
      by_kind : (o u : Bool) → s.is_operation k ≡ o → s.uses k ≡ u →
          Contains (if o then map (λ j. s.count + j) (s.spread_in k) else if u then map (λ j. (s.count + s.count) + j) (s.spreading k) else []) n → Means n
      by_kind true u is used there =
          let j = from_shifted s.count n (s.spread_in k) there in
          subst Means (sym j.2) (reached (are.spread_below k j.0 j.1) g is (start j.1))
      by_kind false true is used there =
          let j = from_shifted (s.count + s.count) n (s.spreading k) there in
          let spreads = are.forth j.0 k j.1 in
          subst Means (sym j.2) (leading (are.spreader_below j.0 k spreads) g used is (start spreads))
      by_kind false false is used there = nothing_in n there

  sound_reached : (o k n : ℕ) → k < s.count → Group o → s.is_operation o ≡ true → Reach (s.spread_in o) s.spread_in k → Contains (leads_of_reached s k) n → Means n
  sound_reached o k n h g is way there = ⊎_elim
      (λ left. let j = from_shifted s.count n (s.spread_in k) left in subst Means (sym j.2) (reached (are.spread_below k j.0 j.1) g is (step way j.1)))
      (λ right. by_use (s.uses k) refl right)
      (Contains-append_cases (map (λ j. s.count + j) (s.spread_in k)) (if s.uses k then k ∷ [] else []) n there)
    where
      by_use : (u : Bool) → s.uses k ≡ u → Contains (if u then k ∷ [] else []) n → Means n
      by_use true used there = subst Means (sym (only k n there)) (member h (with_operation g is way used))
      by_use false used there = nothing_in n there

  sound_leading : (f k n : ℕ) → k < s.count → Group f → s.uses f ≡ true → s.is_operation f ≡ false → Reach (s.spread_in k) s.spread_in f → Contains (leads_of_leading s k) n → Means n
  sound_leading f k n h g used is way there = by_kind (s.is_operation k) refl there
    where
      by_kind : (o : Bool) → s.is_operation k ≡ o → Contains (if o then k ∷ [] else map (λ j. (s.count + s.count) + j) (s.spreading k)) n → Means n
      by_kind true op there = subst Means (sym (only k n there)) (member h (with_fragment g op way used))
      by_kind false op there =
          let j = from_shifted (s.count + s.count) n (s.spreading k) there in
          let spreads = are.forth j.0 k j.1 in
          subst Means (sym j.2) (leading (are.spreader_below j.0 k spreads) g used is (earlier s.spread_in j.0 k f spreads way))

  sound_step : (m n : ℕ) → Means m → Contains (leads_of s m) n → Means n
  sound_step m n (member h g) there = sound_member m n h g (subst (λ ns. Contains ns n) (at_member s m h) there)
  sound_step m n (reached {o = o} {k = k} h g is way) there = sound_reached o k n h g is way (subst (λ ns. Contains ns n) (at_reached s k h) there)
  sound_step m n (leading {f = f} {k = k} h g used is way) there = sound_leading f k n h g used is way (subst (λ ns. Contains ns n) (at_leading s k) there)

  sound : (m : ℕ) → Reach (first_one ∷ []) (leads_of s) m → Means m
  sound m (start found) = subst Means (sym (only first_one m found)) (member inside itself)
  sound m (step {m = k} way found) = sound_step k m (sound k way) found

  of_member : (m : ℕ) → Means m → m < s.count → Group m
  of_member m (member h g) below = g
  of_member m (reached h g is way) below = absurd (omega (arith, below))
  of_member m (leading h g used is way) below = absurd (omega (arith, below))

  -- what is reached stands below the count, is a fragment, and is spread from below the count
  reach_below : (o f : ℕ) → Reach (s.spread_in o) s.spread_in f → f < s.count
  reach_below o f (start found) = are.spread_below o f found
  reach_below o f (step {m = m} way found) = are.spread_below m f found

  reach_fragment : (o f : ℕ) → Reach (s.spread_in o) s.spread_in f → s.is_operation f ≡ false
  reach_fragment o f (start found) = are.spread_is_fragment o f found
  reach_fragment o f (step {m = m} way found) = are.spread_is_fragment m f found

  reach_from : (o f : ℕ) → Reach (s.spread_in o) s.spread_in f → o < s.count
  reach_from o f (start found) = are.spreader_below o f found
  reach_from o f (step {m = m} way found) = reach_from o m way

  abbrev pub Gone : ℕ → Type 0
  Gone = Reach (first_one ∷ []) (leads_of s)

  down : (o k : ℕ) → Gone o → s.is_operation o ≡ true → Reach (s.spread_in o) s.spread_in k → Gone (s.count + k)
  down o k go is (start found) =
      let leads : leads_of s o ≡ map (λ j. s.count + j) (s.spread_in o) = at_member s o (are.spreader_below o k found) ∙ choose_true (s.is_operation o) _ _ is in
      step go (subst (λ ns. Contains ns (s.count + k)) (sym leads) (to_map (λ j. s.count + j) (s.spread_in o) k found))
  down o k go is (step {m = j} way found) =
      step (down o j go is way)
      (subst (λ ns. Contains ns (s.count + k)) (sym (at_reached s j (reach_below o j way)))
      (Contains-append_left (map (λ i. s.count + i) (s.spread_in j)) (if s.uses j then j ∷ [] else []) (s.count + k) (to_map (λ i. s.count + i) (s.spread_in j) k found)))

  further : (o f : ℕ) → Gone ((s.count + s.count) + f) → s.is_operation f ≡ false → Contains (s.spread_in o) f → Gone ((s.count + s.count) + o)
  further o f go is found =
      let leads : leads_of s ((s.count + s.count) + f) ≡ map (λ j. (s.count + s.count) + j) (s.spreading f) = at_leading s f ∙ choose_false (s.is_operation f) _ _ is in
      step go (subst (λ ns. Contains ns ((s.count + s.count) + o)) (sym leads) (to_map (λ j. (s.count + s.count) + j) (s.spreading f) o (are.back o f found)))

  up : (o f : ℕ) → Gone ((s.count + s.count) + f) → s.is_operation f ≡ false → Reach (s.spread_in o) s.spread_in f → Gone ((s.count + s.count) + o)
  up o f go is (start found) = further o f go is found
  up o f go is (step {m = m} way found) = up o m (further m f go is found) (reach_fragment o m way) way

  first_further : (o f : ℕ) → f < s.count → Gone f → s.is_operation f ≡ false → s.uses f ≡ true → Contains (s.spread_in o) f → Gone ((s.count + s.count) + o)
  first_further o f h go is used found =
      let leads : leads_of s f ≡ map (λ j. (s.count + s.count) + j) (s.spreading f) = at_member s f h ∙ choose_false (s.is_operation f) _ _ is ∙ choose_true (s.uses f) _ _ used in
      step go (subst (λ ns. Contains ns ((s.count + s.count) + o)) (sym leads) (to_map (λ j. (s.count + s.count) + j) (s.spreading f) o (are.back o f found)))

  up_first : (o f : ℕ) → f < s.count → Gone f → s.is_operation f ≡ false → s.uses f ≡ true → Reach (s.spread_in o) s.spread_in f → Gone ((s.count + s.count) + o)
  up_first o f h go is used (start found) = first_further o f h go is used found
  up_first o f h go is used (step {m = m} way found) = up o m (first_further m f h go is used found) (reach_fragment o m way) way

  complete : (m : ℕ) → Group m → Gone m
  complete m itself = start (first first_one m [] refl)
  complete m (with_operation {o = o} {f = f} g is way used) =
      let own : Contains (if s.uses f then f ∷ [] else []) f = subst (λ ns. Contains ns f) (sym (choose_true (s.uses f) (f ∷ []) [] used)) (first f f [] refl) in
      step (down o f (complete o g) is way)
      (subst (λ ns. Contains ns f) (sym (at_reached s f (reach_below o f way)))
      (Contains-append_right (map (λ i. s.count + i) (s.spread_in f)) (if s.uses f then f ∷ [] else []) f own))
  complete m (with_fragment {o = o} {f = f} g is way used) =
      let leads : leads_of s ((s.count + s.count) + o) ≡ o ∷ [] = at_leading s o ∙ choose_true (s.is_operation o) _ _ is in
      step (up_first o f (reach_below o f way) (complete f g) (reach_fragment o f way) used way)
      (subst (λ ns. Contains ns o) (sym leads) (first o o [] refl))

  -- what is reached below the count is the group
  pub group_is : (m : ℕ) → m < s.count → Gone m ↔ Group m
  group_is m h = (λ go. of_member m (sound m go) h, complete m)

-- Numbers that stand in range lead to numbers in range.
pub record InCount (s : Sharing) : Type 0 where
  pub spread : (m n : ℕ) → Contains (s.spread_in m) n → n < s.count
  pub spreading : (m n : ℕ) → Contains (s.spreading m) n → n < s.count

module _ (s : Sharing) (in_count : InCount s) (k : ℕ) (inside : k < s.count) where
  abbrev pub All_count : ℕ
  All_count = s.count + s.count + s.count

  own_below : (b : Bool) (n : ℕ) → Contains (if b then k ∷ [] else []) n → n < All_count
  own_below true n there = omega (arith, inside, only k n there)
  own_below false n there = nothing_in n there

  once_further : (n : ℕ) → Contains (map (λ j. s.count + j) (s.spread_in k)) n → n < All_count
  once_further n there =
      let j = from_shifted s.count n (s.spread_in k) there in
      let small = in_count.spread k j.0 j.1 in
      omega (arith, small, j.2)

  twice_further : (n : ℕ) → Contains (map (λ j. (s.count + s.count) + j) (s.spreading k)) n → n < All_count
  twice_further n there =
      let j = from_shifted (s.count + s.count) n (s.spreading k) there in
      let small = in_count.spreading k j.0 j.1 in
      omega (arith, small, j.2)

  pub member_below : (n : ℕ) → Contains (leads_of_member s k) n → n < All_count
  member_below n there = by_kind (s.is_operation k) (s.uses k) there
    where
      by_kind : (o u : Bool) → Contains (if o then map (λ j. s.count + j) (s.spread_in k) else if u then map (λ j. (s.count + s.count) + j) (s.spreading k) else []) n → n < All_count
      by_kind true u there = once_further n there
      by_kind false true there = twice_further n there
      by_kind false false there = nothing_in n there

  pub reached_below : (n : ℕ) → Contains (leads_of_reached s k) n → n < All_count
  reached_below n there = ⊎_elim (once_further n) (own_below (s.uses k) n) (Contains-append_cases (map (λ j. s.count + j) (s.spread_in k)) (if s.uses k then k ∷ [] else []) n there)

  pub leading_below : (n : ℕ) → Contains (leads_of_leading s k) n → n < All_count
  leading_below n there = by_kind (s.is_operation k) there
    where
      by_kind : (o : Bool) → Contains (if o then k ∷ [] else map (λ j. (s.count + s.count) + j) (s.spreading k)) n → n < All_count
      by_kind true there = own_below true n there
      by_kind false there = twice_further n there

-- what holds of each item of a list holds of all
pub all_of : {X : Type 0} (P : X → Type 0) (xs ys : List X) → ys ≡ xs → ((x : X) → Contains xs x → P x) → All P ys
all_of P xs ys same each = subst (λ zs. All P zs) (sym same) (All-weaker (Contains xs) P each xs (All-contains_itself xs))

-- what a number leads to, by what is known of it
module _ (s : Sharing) (k : ℕ) where
  pub leads_operation : s.is_operation k ≡ true → leads_of_member s k ≡ map (λ j. s.count + j) (s.spread_in k)
  leads_operation is = choose_true (s.is_operation k) _ _ is

  pub leads_user : s.is_operation k ≡ false → s.uses k ≡ true → leads_of_member s k ≡ map (λ j. (s.count + s.count) + j) (s.spreading k)
  leads_user is used = choose_false (s.is_operation k) _ _ is ∙ choose_true (s.uses k) _ _ used

  pub reached_user : s.uses k ≡ true → leads_of_reached s k ≡ map (λ j. s.count + j) (s.spread_in k) ++ k ∷ []
  reached_user used = ap (λ l. map (λ j. s.count + j) (s.spread_in k) ++ l) (choose_true (s.uses k) _ _ used)

  pub reached_other : s.uses k ≡ false → leads_of_reached s k ≡ map (λ j. s.count + j) (s.spread_in k)
  reached_other used = ap (λ l. map (λ j. s.count + j) (s.spread_in k) ++ l) (choose_false (s.uses k) _ _ used) ∙ append-nil (map (λ j. s.count + j) (s.spread_in k))

  pub leading_further : s.is_operation k ≡ false → leads_of_leading s k ≡ map (λ j. (s.count + s.count) + j) (s.spreading k)
  leading_further is = choose_false (s.is_operation k) _ _ is
