-- The fragments spread in each set in two parts, and the fields of a group by them.
use Rattle.std.proofs.Common.{◌≡◌, ◌↔◌, ◌⊎◌, ⊎_elim, inl, inr, ℕ, zero, suc, ◌+◌, ◌<◌, ◌≤◌, List, [], ◌∷◌, ◌++◌, All, Contains, length, map, take, refl, sym, ◌∙◌, ap, subst, arith, Vec, Global}
use Rattle.std.specs.List.{flat_map}
use Rattle.std.proofs.lemmas.List.{take_all, length-append}
use Rattle.std.proofs.lemmas.List.Elements.{All-contains, All-weaker, All-contains_itself, Contains-append_left, Contains-append_right, Contains-append_cases, Contains-push, Contains-push_cases}
use Rattle.std.proofs.lemmas.Bool.Decides.{eqb_tells}
use Rattle.gq_names.proofs.RepeatLemmas.{contains_none, contains_cases, contains_first, contains_later}
use Rattle.gq_graph.specs.Reach.{Reach, InRange, start, step, row}
use Rattle.gq_types.proofs.Gathered.{from_flat, to_flat}
use Rattle.gq_merging.specs.Helping.Views.{rows_view}
use Rattle.gq_merging.specs.declared.rows.Row.{Row}
use Rattle.gq_merging.proofs.MemberSteps.{alike, row_there}
use Rattle.gq_merging.specs.Helping.SetTables.{MemberOf, RowOf, members_at, spreads_at}
use Rattle.gq_merging.specs.Helping.PartTables.{AreParts, AreSplit}

-- two lists that hold the same numbers as one, and a number that was put into one of the two
pub none_put : (a b : List ℕ) → a ≡ [] → b ≡ [] → (k : ℕ) → (Contains a k ⊎ Contains b k) ↔ Contains [] k
none_put a b e f k = (
  (λ s. ⊎_elim (λ c. subst (λ ns. Contains ns k) e c) (λ c. subst (λ ns. Contains ns k) f c) s),
  (λ c. absurd (contains_none k c)),
)

pub put_left : (a b rest new : List ℕ) (n : ℕ) → new ≡ a ++ n ∷ [] → ((k : ℕ) → (Contains a k ⊎ Contains b k) ↔ Contains rest k) → (k : ℕ) → (Contains new k ⊎ Contains b k) ↔ Contains (rest ++ n ∷ []) k
put_left a b rest new n is h k = subst (λ ns. (Contains ns k ⊎ Contains b k) ↔ Contains (rest ++ n ∷ []) k) (sym is) (
  (λ s. ⊎_elim
      (λ c. ⊎_elim (λ d. Contains-append_left rest (n ∷ []) k ((h k).0 (inl d))) (λ e. subst (Contains (rest ++ n ∷ [])) e (Contains-push rest n)) (Contains-push_cases a n k c))
      (λ c. Contains-append_left rest (n ∷ []) k ((h k).0 (inr c))) s),
  (λ c. ⊎_elim
      (λ d. ⊎_elim (λ l. inl (Contains-append_left a (n ∷ []) k l)) inr ((h k).1 d))
      (λ e. inl (subst (Contains (a ++ n ∷ [])) e (Contains-push a n))) (Contains-push_cases rest n k c)),
)

pub put_right : (a b rest new : List ℕ) (n : ℕ) → new ≡ b ++ n ∷ [] → ((k : ℕ) → (Contains a k ⊎ Contains b k) ↔ Contains rest k) → (k : ℕ) → (Contains a k ⊎ Contains new k) ↔ Contains (rest ++ n ∷ []) k
put_right a b rest new n is h k =
    let turned : (Contains new k ⊎ Contains a k) ↔ Contains (rest ++ n ∷ []) k = put_left b a rest new n is (λ j. ((λ s. (h j).0 (⊎_elim inr inl s)), (λ c. ⊎_elim inr inl ((h j).1 c)))) k in
    ((λ s. turned.0 (⊎_elim inr inl s)), (λ c. ⊎_elim inr inl (turned.1 c)))

-- one row more
row_last : (xs : List (Vec ℕ Global)) (v : Vec ℕ Global) (n : ℕ) → n ≡ length xs → row (xs ++ v ∷ []) n ≡ v.items
row_last [] v zero e = refl
row_last [] v (suc n) e = absurd (omega (arith, e))
row_last (x ∷ xs) v zero e = absurd (omega (arith, e))
row_last (x ∷ xs) v (suc n) e = row_last xs v n (omega (arith, e))

row_other : (xs : List (Vec ℕ Global)) (v : Vec ℕ Global) (n : ℕ) → (n ≡ length xs → ⊥) → row (xs ++ v ∷ []) n ≡ row xs n
row_other [] v zero ne = absurd (ne refl)
row_other [] v (suc n) ne = refl
row_other (x ∷ xs) v zero ne = refl
row_other (x ∷ xs) v (suc n) ne = row_other xs v n (λ e. ne (ap suc e))

parts_more : (ss ns fs : List (Vec ℕ Global)) (s a b : Vec ℕ Global) → ((k : ℕ) → (Contains a.items k ⊎ Contains b.items k) ↔ Contains s.items k) → AreParts ss ns fs → AreParts (ss ++ s ∷ []) (ns ++ a ∷ []) (fs ++ b ∷ [])
parts_more ss ns fs s a b h p = record {
  near_count = length-append ns (a ∷ []) ∙ ap (λ n. n + 1) p.near_count ∙ sym (length-append ss (s ∷ []));
  far_count = length-append fs (b ∷ []) ∙ ap (λ n. n + 1) p.far_count ∙ sym (length-append ss (s ∷ []));
  each = λ n k. ⊎_elim (λ e. here n k e.1) (λ e. there n k e.1) (eqb_tells n (length ss));
}
  where
    AreIn : List ℕ → List ℕ → List ℕ → ℕ → Type 0
    AreIn xs ys zs k = Contains xs k ↔ (Contains ys k ⊎ Contains zs k)

    here : (n k : ℕ) → n ≡ length ss → Contains (row (ss ++ s ∷ []) n) k ↔ (Contains (row (ns ++ a ∷ []) n) k ⊎ Contains (row (fs ++ b ∷ []) n) k)
    here n k e =
        subst (λ xs. AreIn xs (row (ns ++ a ∷ []) n) (row (fs ++ b ∷ []) n) k) (sym (row_last ss s n e))
        (subst (λ ys. AreIn s.items ys (row (fs ++ b ∷ []) n) k) (sym (row_last ns a n (e ∙ sym p.near_count)))
        (subst (λ zs. AreIn s.items a.items zs k) (sym (row_last fs b n (e ∙ sym p.far_count))) ((h k).1, (h k).0)))

    there : (n k : ℕ) → (n ≡ length ss → ⊥) → Contains (row (ss ++ s ∷ []) n) k ↔ (Contains (row (ns ++ a ∷ []) n) k ⊎ Contains (row (fs ++ b ∷ []) n) k)
    there n k e =
        subst (λ xs. AreIn xs (row (ns ++ a ∷ []) n) (row (fs ++ b ∷ []) n) k) (sym (row_other ss s n e))
        (subst (λ ys. AreIn (row ss n) ys (row (fs ++ b ∷ []) n) k) (sym (row_other ns a n (λ q. e (q ∙ p.near_count))))
        (subst (λ zs. AreIn (row ss n) (row ns n) zs k) (sym (row_other fs b n (λ q. e (q ∙ p.far_count)))) (p.each n k)))

pub no_parts : (ns fs : List (Vec ℕ Global)) → ns ≡ [] → fs ≡ [] → AreParts [] ns fs
no_parts ns fs e f = subst (λ ys. AreParts [] ys fs) (sym e) (subst (λ zs. AreParts [] [] zs) (sym f)
    (record { near_count = refl; far_count = refl; each = λ n k. (inl, (λ s. ⊎_elim (λ c. c) (λ c. c) s)) }))

-- the same, as the code puts the rows
pub parts_pushed : (ss ns fs ns' fs' : List (Vec ℕ Global)) (s a b : Vec ℕ Global) → ns' ≡ ns ++ a ∷ [] → fs' ≡ fs ++ b ∷ [] →
    ((k : ℕ) → (Contains a.items k ⊎ Contains b.items k) ↔ Contains s.items k) → AreParts ss ns fs → AreParts (ss ++ s ∷ []) ns' fs'
parts_pushed ss ns fs ns' fs' s a b e f h p =
    subst (λ ys. AreParts (ss ++ s ∷ []) ys fs') (sym e) (subst (λ zs. AreParts (ss ++ s ∷ []) (ns ++ a ∷ []) zs) (sym f) (parts_more ss ns fs s a b h p))

pub parts_at_end : (ss ns fs : List (Vec ℕ Global)) (i : ℕ) → length ss ≤ i → AreParts (take i ss) ns fs → AreParts ss ns fs
parts_at_end ss ns fs i end p = subst (λ xs. AreParts xs ns fs) (take_all i ss end) p

-- what stands in the rows of a table has a row
pub row_of : (table : List (Vec ℕ Global)) (v : Vec ℕ Global) → Contains table v → (n : ℕ) × (n < length table) × (row table n ≡ v.items)
row_of [] v c = absurd (contains_none v c)
row_of (w ∷ ws) v c =
    let some : 0 < length (w ∷ ws) = omega arith in
    ⊎_elim (λ e. (0, some, ap (λ (u : Vec ℕ Global). u.items) e)) (λ d. let q = row_of ws v d in let l : suc q.0 < length (w ∷ ws) = omega (arith, q.1) in (suc q.0, l, q.2)) (contains_cases w ws v c)

pub row_contained : (table : List (Vec ℕ Global)) (n : ℕ) → n < length table → Contains (map (λ v. v.items) table) (row table n)
row_contained [] n l = absurd (omega (arith, l))
row_contained (v ∷ table) zero l = contains_first v.items (map (λ v. v.items) table) v.items refl
row_contained (v ∷ table) (suc n) l = contains_later v.items (map (λ v. v.items) table) (row table n) (row_contained table n (omega (arith, l)))

pub row_past : (table : List (Vec ℕ Global)) (n : ℕ) → length table ≤ n → row table n ≡ []
row_past [] n l = refl
row_past (v ∷ table) zero l = absurd (omega (arith, l))
row_past (v ∷ table) (suc n) l = row_past table n (omega (arith, l))

pub below_in_rows : (table : List (Vec ℕ Global)) (count : ℕ) → All (λ v. All (λ n. n < count) v.items) table → (m k : ℕ) → Contains (row table m) k → k < count
below_in_rows table count range m k c =
    let v = row_there table m k c in
    All-contains (λ n. n < count) v.0.items k (All-contains (λ v. All (λ n. n < count) v.items) table v.0 range v.1) v.2

pub all_below : (table : List (Vec ℕ Global)) (count : ℕ) (numbers ns : List ℕ) → All (λ v. All (λ n. n < count) v.items) table → ns ≡ flat_map (row table) numbers → All (λ n. n < count) ns
all_below table count numbers ns range is =
    All-weaker (Contains ns) (λ n. n < count)
    (λ k c. let q = from_flat (row table) numbers k (subst (λ ms. Contains ms k) is c) in below_in_rows table count range q.0 k q.2)
    ns (All-contains_itself ns)

-- each part leads to sets that have rows
module _ (spreads near far : List (Vec ℕ Global)) (parts : AreParts spreads near far) (range : InRange spreads) where
  in_range_by : (table : List (Vec ℕ Global)) → ((n k : ℕ) → Contains (row table n) k → Contains (row spreads n) k) → All (λ v. All (λ n. n < length spreads) v.items) table
  in_range_by table h =
      All-weaker (Contains table) (λ v. All (λ n. n < length spreads) v.items)
      (λ v c.
      let q = row_of table v c in
      All-weaker (Contains v.items) (λ n. n < length spreads)
      (λ k d. below_in_rows spreads (length spreads) range q.0 k (h q.0 k (subst (λ ns. Contains ns k) (sym q.2) d)))
      v.items (All-contains_itself v.items))
      table (All-contains_itself table)

  pub near_in_range : InRange near
  near_in_range = subst (λ count. All (λ v. All (λ n. n < count) v.items) near) (sym parts.near_count) (in_range_by near (λ n k c. (parts.each n k).1 (inl c)))

  pub far_in_range : All (λ v. All (λ n. n < length spreads) v.items) far
  far_in_range = in_range_by far (λ n k c. (parts.each n k).1 (inr c))

-- the same, as rows of sets and the code have the tables
pub parts_told : (rows : List Row) (spreads near far near' far' : List (Vec ℕ Global)) → map (λ v. v.items) spreads ≡ map (λ r. r.spreads.items) rows → AreParts spreads near far → near' ≡ near → far' ≡ far →
    (n k : ℕ) → Contains (spreads_at (rows_view rows) n) k ↔ (Contains (row near' n) k ⊎ Contains (row far' n) k)
parts_told rows spreads near far near' far' same parts e f n k =
    subst (λ t. Contains (spreads_at (rows_view rows) n) k ↔ (Contains (row t n) k ⊎ Contains (row far' n) k)) (sym e)
    (subst (λ t. Contains (spreads_at (rows_view rows) n) k ↔ (Contains (row near n) k ⊎ Contains (row t n) k)) (sym f)
    (subst (λ ns. Contains ns k ↔ (Contains (row near n) k ⊎ Contains (row far n) k)) (alike rows spreads same n) (parts.each n k)))

-- a group, and what it leads to by near spreads
pub near_sound : (near : ℕ → List ℕ) (group starts found all : List ℕ) → starts ≡ flat_map near group → ((n : ℕ) → Contains found n → Reach starts near n) → all ≡ group ++ found →
    (n : ℕ) → Contains all n → Reach group near n
near_sound near group starts found all e sound is n c = ⊎_elim start (λ d. back (sound n d)) (Contains-append_cases group found n (subst (λ ns. Contains ns n) is c))
  where
    back : {k : ℕ} → Reach starts near k → Reach group near k
    back (start {n = k} d) = let q = from_flat near group k (subst (λ ns. Contains ns k) e d) in step (start q.1) q.2
    back (step h d) = step (back h) d

pub near_complete : (near : ℕ → List ℕ) (group starts found all : List ℕ) → starts ≡ flat_map near group → ((n : ℕ) → Reach starts near n → Contains found n) → ((n : ℕ) → Contains found n → Reach starts near n) →
    all ≡ group ++ found → (n : ℕ) → Reach group near n → Contains all n
near_complete near group starts found all e complete sound is n r = subst (λ ns. Contains ns n) (sym is) (there r)
  where
    there : {k : ℕ} → Reach group near k → Contains (group ++ found) k
    there (start {n = k} c) = Contains-append_left group found k c
    there (step {m = m} {n = k} h c) = ⊎_elim
        (λ g. Contains-append_right group found k (complete k (start (subst (λ ns. Contains ns k) (sym e) (to_flat near group m k g c)))))
        (λ f. Contains-append_right group found k (complete k (step (sound m f) c)))
        (Contains-append_cases group found m (there h))

-- The fields of a group: those of its sets and of what these lead to by near spreads, and what the far ones reach which are spread there.
module _ (rows : List RowOf) (near far : ℕ → List ℕ) (each : (n k : ℕ) → Contains (spreads_at rows n) k ↔ (Contains (near n) k ⊎ Contains (far n) k)) (group all : List ℕ)
    (sound : (n : ℕ) → Contains all n → Reach group near n) (complete : (n : ℕ) → Reach group near n → Contains all n) where
  near_reach : {n : ℕ} → Reach group near n → Reach group (spreads_at rows) n
  near_reach (start c) = start c
  near_reach (step {m = m} {n = k} r c) = step (near_reach r) ((each m k).1 (inl c))

  near_or_far : {n : ℕ} → Reach group (spreads_at rows) n → Contains all n ⊎ Reach (flat_map far all) (spreads_at rows) n
  near_or_far (start {n = k} c) = inl (complete k (start c))
  near_or_far (step {m = m} {n = k} r c) = ⊎_elim
      (λ a. ⊎_elim (λ p. inl (complete k (step (sound m a) p))) (λ q. inr (start (to_flat far all m k a q))) ((each m k).0 c))
      (λ f. inr (step f c)) (near_or_far r)

  far_reach : {n : ℕ} → Reach (flat_map far all) (spreads_at rows) n → Reach group (spreads_at rows) n
  far_reach (start {n = k} c) = let q = from_flat far all k c in step (near_reach (sound q.0 q.1)) ((each q.0 k).1 (inr q.2))
  far_reach (step r c) = step (far_reach r) c

  pub split_by_parts : AreSplit rows group (flat_map (members_at rows) all) (flat_map far all)
  split_by_parts = record {
    each = λ m. (
      (λ h. ⊎_elim
          (λ c. inl (to_flat (members_at rows) all h.reached m c h.stands))
          (λ r. inr (record { reached = h.reached; reach = r; stands = h.stands }))
          (near_or_far h.reach)),
      (λ s. ⊎_elim
          (λ c. let q = from_flat (members_at rows) all m c in record { reached = q.0; reach = near_reach (sound q.0 q.1); stands = q.2 })
          (λ h. record { reached = h.reached; reach = far_reach h.reach; stands = h.stands }) s),
    );
  }

-- the same of what the code gathers
pub split_as : (rows : List RowOf) (group group' : List ℕ) (own own' : List MemberOf) (fragments fragments' : List ℕ) → group ≡ group' → own' ≡ own → fragments' ≡ fragments →
    AreSplit rows group own fragments → AreSplit rows group' own' fragments'
split_as rows group group' own own' fragments fragments' g o f split =
    subst (λ gs. AreSplit rows gs own' fragments') g (subst (λ ms. AreSplit rows group ms fragments') (sym o) (subst (λ ns. AreSplit rows group own ns) (sym f) split))
