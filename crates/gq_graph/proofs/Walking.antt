-- A walk in depth, step by step.
use Rattle.std.proofs.Common.{ℕ, zero, suc, ◌+◌, ◌*◌, ◌≤◌, ◌<◌, ◌≡◌, List, [], ◌∷◌, ◌++◌, Bool, length, sym, ◌∙◌, ap, subst, refl, arith, inl, inr, get_or, set, append-nil, replicate}
use Rattle.std.specs.Prelude.{Contains, All}
use Rattle.std.specs.declared.vec.Vec.{Vec}
use Rattle.std.specs.declared.alloc.Global.{Global}
use Rattle.std.proofs.lemmas.List.{length_push, length-set, length-replicate, get_or-set_same, get_or-set_other, get_or_append_left, get_or_push, get_or_default, get_or-replicate, get_or_past}
use Rattle.std.proofs.lemmas.List.Elements.{Contains-append_left, Contains-append_right, Contains-append_cases, Contains-push, Contains-push_cases, Contains-get_or, All-nil, All-push, All-contains, All-weaker, All-head, All-tail}
use Rattle.std.proofs.lemmas.Bool.{cases_eq, cases_lt}
use Rattle.gq_graph.specs.Reach.{Reach, start, step, row, InRange}
use Rattle.gq_graph.specs.Helping.Found.{Marked, Added}
use Rattle.gq_graph.specs.Helping.Finished.{Finished, nothing, finish, LeadsOn, Walk, entries_left}
use Rattle.gq_graph.proofs.Ways.{contains_nothing, one_contains}
use Rattle.gq_graph.proofs.Searching.{row_at}

-- a number lower on the stack leads to the one on top
on_to_top : (next : ℕ → List ℕ) (s : List ℕ) (t u : ℕ) → LeadsOn next (s ++ t ∷ []) → Contains s u → Reach (u ∷ []) next t
on_to_top next s t u way h =
    let lt : h.0 < length s = h.1 in
    let at_u : get_or (s ++ t ∷ []) h.0 0 ≡ u =
    get_or_append_left s (t ∷ []) 0 h.0 lt ∙ get_or_default s h.0 0 u lt ∙ h.2 in
    let at_t : get_or (s ++ t ∷ []) (length s) 0 ≡ t = get_or_push s t 0 (length s) refl in
    let r : Reach (get_or (s ++ t ∷ []) h.0 0 ∷ []) next (get_or (s ++ t ∷ []) (length s) 0) =
    way h.0 (length s) lt (omega (arith, length_push s t)) in
    subst (λ k. Reach (k ∷ []) next t) at_u (subst (λ k. Reach (get_or (s ++ t ∷ []) h.0 0 ∷ []) next k) at_t r)

on_pop : (next : ℕ → List ℕ) (s : List ℕ) (t : ℕ) → LeadsOn next (s ++ t ∷ []) → LeadsOn next s
on_pop next s t way i j lt b =
    let at_i : get_or (s ++ t ∷ []) i 0 ≡ get_or s i 0 = get_or_append_left s (t ∷ []) 0 i (omega (arith, lt, b)) in
    let at_j : get_or (s ++ t ∷ []) j 0 ≡ get_or s j 0 = get_or_append_left s (t ∷ []) 0 j b in
    subst (λ k. Reach (k ∷ []) next (get_or s j 0)) at_i
    (subst (λ k. Reach (get_or (s ++ t ∷ []) i 0 ∷ []) next k) at_j (way i j lt (omega (arith, b, length_push s t))))

on_push : (next : ℕ → List ℕ) (s : List ℕ) (t : ℕ) → LeadsOn next s → ((u : ℕ) → Contains s u → Reach (u ∷ []) next t) →
    LeadsOn next (s ++ t ∷ [])
on_push next s t way to i j lt b =
    let i_in : i < length s = omega (arith, lt, b, length_push s t) in
    let at_i : get_or (s ++ t ∷ []) i 0 ≡ get_or s i 0 = get_or_append_left s (t ∷ []) 0 i i_in in
    subst (λ k. Reach (k ∷ []) next (get_or (s ++ t ∷ []) j 0)) (sym at_i)
    (elim (cases_lt j (length s)) [
      | inl j_in ↦ subst (λ k. Reach (get_or s i 0 ∷ []) next k) (sym (get_or_append_left s (t ∷ []) 0 j j_in)) (way i j lt j_in)
      | inr j_out ↦ subst (λ k. Reach (get_or s i 0 ∷ []) next k)
          (sym (get_or_push s t 0 j (omega (arith, j_out, b, length_push s t))))
          (to (get_or s i 0) (Contains-get_or s i 0 i_in))
    ])

on_none : (next : ℕ → List ℕ) → LeadsOn next []
on_none next i j lt b = absurd (omega (arith, b))

pub on_one : (next : ℕ → List ℕ) (n : ℕ) → LeadsOn next (n ∷ [])
on_one next n = on_push next [] n (on_none next) (λ u h. absurd (contains_nothing u h))

-- one more on the stack
pub on_step : (next : ℕ → List ℕ) (s : List ℕ) (t n : ℕ) → LeadsOn next (s ++ t ∷ []) → Contains (next t) n →
    LeadsOn next (s ++ t ∷ [] ++ n ∷ [])
on_step next s t n way h = on_push next (s ++ t ∷ []) n way
    (λ u c. elim (Contains-push_cases s t u c) [
      | inl q ↦ step (on_to_top next s t u way q) h
      | inr q ↦ subst (λ k. Reach (k ∷ []) next n) q (step (start (one_contains t)) h)
    ])

-- one entry more is passed
left_less : (rows : List (Vec ℕ Global)) (ps : List ℕ) (i p : ℕ) → i < length ps → get_or ps i 0 ≡ p → p < length (row rows i) →
    suc (entries_left rows (set ps i (p + 1))) ≡ entries_left rows ps
left_less [] ps i p lt e b = absurd (omega (arith, b))
left_less (v ∷ vs) [] i p lt e b = absurd (omega (arith, lt))
left_less (v ∷ vs) (q ∷ qs) zero p lt e b = omega (arith, e, b)
left_less (v ∷ vs) (q ∷ qs) (suc i) p lt e b =
    let h : suc (entries_left vs (set qs i (p + 1))) ≡ entries_left vs qs = left_less vs qs i p (omega (arith, lt)) e b in
    omega (arith, h)

pub passes_fewer : (rows : List (Vec ℕ Global)) (ps s : List ℕ) (t n p : ℕ) → t < length ps → get_or ps t 0 ≡ p → p < length (row rows t) →
    2 * entries_left rows (set ps t (p + 1)) + length (s ++ t ∷ [] ++ n ∷ []) < 2 * entries_left rows ps + (length s + 1)
passes_fewer rows ps s t n p lt e b =
    omega (arith, left_less rows ps t p lt e b, length_push (s ++ t ∷ []) n, length_push s t)

-- what is on the list with the stack's top stays there when more is put onto the stack
pub keeps_pushed : (f s : List ℕ) (t n k : ℕ) → Contains (f ++ (s ++ t ∷ [])) k → Contains (f ++ (s ++ t ∷ [] ++ n ∷ [])) k
keeps_pushed f s t n k h = elim (Contains-append_cases f (s ++ t ∷ []) k h) [
  | inl q ↦ Contains-append_left f (s ++ t ∷ [] ++ n ∷ []) k q
  | inr q ↦ Contains-append_right f (s ++ t ∷ [] ++ n ∷ []) k (Contains-append_left (s ++ t ∷ []) (n ∷ []) k q)
]

-- what stands in a row is below what all in the table is below
pub row_below_all : (rows : List (Vec ℕ Global)) (count t n : ℕ) → All (λ v. All (λ k. k < count) v.items) rows →
    Contains (row rows t) n → n < count
row_below_all [] count t n all h = absurd (contains_nothing n h)
row_below_all (v ∷ vs) count zero n all h =
    All-contains (λ k. k < count) v.items n (All-head (λ (w : Vec ℕ Global). All (λ k. k < count) w.items) v vs all) h
row_below_all (v ∷ vs) count (suc t) n all h =
    row_below_all vs count t n (All-tail (λ (w : Vec ℕ Global). All (λ k. k < count) w.items) v vs all) h

pub walk_passes : (rows : List (Vec ℕ Global)) (ps : List ℕ) (marks : List Bool) (f s : List ℕ) (t n p : ℕ) →
    InRange rows → Walk rows ps marks f (s ++ t ∷ []) → t < length rows → get_or ps t 0 ≡ p → p < length (row rows t) → get_or (row rows t) p 0 ≡ n →
    Walk rows (set ps t (p + 1)) marks f (s ++ t ∷ [] ++ n ∷ [])
walk_passes rows ps marks f s t n p range w t_in e b is_n =
    let in_row : Contains (row rows t) n = subst (λ k. Contains (row rows t) k) is_n (Contains-get_or (row rows t) p 0 b) in
    let t_passed : t < length ps = subst (λ k. t < k) (sym w.passed_count) t_in in
    record {
      marked = w.marked;
      marks_count = w.marks_count;
      passed_count = length-set ps t (p + 1) ∙ w.passed_count;
      range = All-push (λ k. k < length rows) (s ++ t ∷ []) n w.range
          (row_below_all rows (length rows) t n range in_row);
      way = on_step (row rows) s t n w.way in_row;
      seen = λ u k lt k_in. elim (cases_eq u t) [
        | inl q ↦
            let lt' : k < p + 1 = subst (λ j. k < j) (ap (λ j. get_or (set ps t (p + 1)) j 0) q ∙ get_or-set_same ps t (p + 1) 0 t_passed) lt in
            elim (cases_lt k p) [
              | inl below ↦ keeps_pushed f s t n (get_or (row rows u) k 0)
                  (w.seen u k (subst (λ j. k < j) (sym (ap (λ j. get_or ps j 0) q ∙ e)) below) k_in)
              | inr above ↦
                  let k_is : k ≡ p = omega (arith, lt', above) in
                  let here : get_or (row rows u) k 0 ≡ n = ap (λ j. get_or (row rows j) k 0) q ∙ ap (λ j. get_or (row rows t) j 0) k_is ∙ is_n in
                  subst (λ j. Contains (f ++ (s ++ t ∷ [] ++ n ∷ [])) j) (sym here)
                  (Contains-append_right f (s ++ t ∷ [] ++ n ∷ []) n (Contains-push (s ++ t ∷ []) n))
            ]
        | inr q ↦ keeps_pushed f s t n (get_or (row rows u) k 0)
            (w.seen u k (subst (λ j. k < j) (get_or-set_other ps t u (p + 1) 0 q) lt) k_in)
      ];
      whole = All-weaker (λ u. length (row rows u) ≤ get_or ps u 0) (λ u. length (row rows u) ≤ get_or (set ps t (p + 1)) u 0)
          (λ u h. elim (cases_eq u t) [
            | inl q ↦
                let was : get_or ps u 0 ≡ p = ap (λ j. get_or ps j 0) q ∙ e in
                let now : get_or (set ps t (p + 1)) u 0 ≡ p + 1 =
                ap (λ j. get_or (set ps t (p + 1)) j 0) q ∙ get_or-set_same ps t (p + 1) 0 t_passed in
                omega (arith, h, was, now)
            | inr q ↦ subst (λ j. length (row rows u) ≤ j) (sym (get_or-set_other ps t u (p + 1) 0 q)) h
          ])
          f w.whole;
      order = w.order;
    }

replicated : (z n i : ℕ) → get_or (replicate n z) i z ≡ z
replicated z n i = elim (cases_lt i n) [
  | inl q ↦ get_or-replicate n i z z q
  | inr q ↦ get_or_past (replicate n z) i z (subst (λ l. l ≤ i) (sym (length-replicate n z)) q)
]

added_keeps : (t : ℕ) (f f' : List ℕ) (k : ℕ) → Added t f f' → Contains f k → Contains f' k
added_keeps t f f' k (inl q) h = subst (λ l. Contains l k) (sym q.1) (Contains-append_left f (t ∷ []) k h)
added_keeps t f f' k (inr q) h = subst (λ l. Contains l k) (sym q.1) h

added_has : (t : ℕ) (f f' : List ℕ) → Added t f f' → Contains f' t
added_has t f f' (inl q) = subst (λ l. Contains l t) (sym q.1) (Contains-push f t)
added_has t f f' (inr q) = subst (λ l. Contains l t) (sym q.1) q.0

added_all : (P : ℕ → Type 0) (t : ℕ) (f f' : List ℕ) → Added t f f' → All P f → P t → All P f'
added_all P t f f' (inl q) h p = subst (λ l. All P l) (sym q.1) (All-push P f t h p)
added_all P t f f' (inr q) h p = subst (λ l. All P l) (sym q.1) h

-- the stack's top joins the finished ones
pub keeps_finished : (f f' s : List ℕ) (t k : ℕ) → Added t f f' → Contains (f ++ (s ++ t ∷ [])) k → Contains (f' ++ s) k
keeps_finished f f' s t k a h = elim (Contains-append_cases f (s ++ t ∷ []) k h) [
  | inl q ↦ Contains-append_left f' s k (added_keeps t f f' k a q)
  | inr q ↦ elim (Contains-push_cases s t k q) [
    | inl r ↦ Contains-append_right f' s k r
    | inr r ↦ Contains-append_left f' s k (subst (λ j. Contains f' j) r (added_has t f f' a))
  ]
]

-- what a finished number leads to
leads_to_seen : (rows : List (Vec ℕ Global)) (ps : List ℕ) (marks : List Bool) (f stack : List ℕ) (m b : ℕ) →
    Walk rows ps marks f stack → length (row rows m) ≤ get_or ps m 0 → Contains (row rows m) b → Contains (f ++ stack) b
leads_to_seen rows ps marks f stack m b w all h =
    let lt : h.0 < length (row rows m) = h.1 in
    let at : get_or (row rows m) h.0 0 ≡ b = get_or_default (row rows m) h.0 0 b lt ∙ h.2 in
    subst (λ k. Contains (f ++ stack) k) at (w.seen m h.0 (omega (arith, all, lt)) lt)

finished_more : (rows : List (Vec ℕ Global)) (ps : List ℕ) (marks : List Bool) (f f' s : List ℕ) (t : ℕ) →
    Walk rows ps marks f (s ++ t ∷ []) → All (λ u. length (row rows u) ≤ get_or ps u 0) f' → Added t f f' → Finished (row rows) f'
finished_more rows ps marks f f' s t w all (inr q) = subst (λ l. Finished (row rows) l) (sym q.1) w.order
finished_more rows ps marks f f' s t w all (inl q) =
    subst (λ l. Finished (row rows) l) (sym q.1)
    (finish w.order q.0 (λ m b m_in h.
    let full : length (row rows m) ≤ get_or ps m 0 =
    All-contains (λ u. length (row rows u) ≤ get_or ps u 0) f' m all (subst (λ l. Contains l m) (sym q.1) m_in) in
    elim (Contains-append_cases f (s ++ t ∷ []) b (leads_to_seen rows ps marks f (s ++ t ∷ []) m b w full h)) [
      | inl r ↦ inl (Contains-append_left f (t ∷ []) b r)
      | inr r ↦ elim (Contains-push_cases s t b r) [
        | inl on ↦ inr (on_to_top (row rows) s t b w.way on)
        | inr top ↦ inl (subst (λ j. Contains (f ++ t ∷ []) j) top (Contains-push f t))
      ]
    ]))

pub walk_finishes : (rows : List (Vec ℕ Global)) (ps : List ℕ) (marks marks' : List Bool) (f f' s : List ℕ) (t : ℕ) →
    Walk rows ps marks f (s ++ t ∷ []) → length (row rows t) ≤ get_or ps t 0 → Added t f f' → Marked marks' f' → length marks' ≡ length marks →
    Walk rows ps marks' f' s
walk_finishes rows ps marks marks' f f' s t w full a m e =
    let all : All (λ u. length (row rows u) ≤ get_or ps u 0) f' = added_all (λ u. length (row rows u) ≤ get_or ps u 0) t f f' a w.whole full in
    record {
      marked = m;
      marks_count = e ∙ w.marks_count;
      passed_count = w.passed_count;
      range = λ k d lt. subst (λ j. j < length rows) (get_or_append_left s (t ∷ []) d k lt)
          (w.range k d (omega (arith, lt, length_push s t)));
      way = on_pop (row rows) s t w.way;
      seen = λ u k lt k_in. keeps_finished f f' s t (get_or (row rows u) k 0) a (w.seen u k lt k_in);
      whole = all;
      order = finished_more rows ps marks f f' s t w all a;
    }

pub walk_starts : (rows : List (Vec ℕ Global)) (marks : List Bool) → Marked marks [] → length marks ≡ length rows →
    Walk rows (replicate (length rows) 0) marks [] []
walk_starts rows marks m e = record {
  marked = m;
  marks_count = e;
  passed_count = length-replicate (length rows) 0;
  range = All-nil (λ n. n < length rows);
  way = on_none (row rows);
  seen = λ u k lt k_in. absurd (let z : get_or (replicate (length rows) 0) u 0 ≡ 0 = replicated 0 (length rows) u in omega (arith, z, lt));
  whole = All-nil (λ n. length (row rows n) ≤ get_or (replicate (length rows) 0) n 0);
  order = nothing;
}

-- a number on the empty stack
pub walk_opens : (rows : List (Vec ℕ Global)) (ps : List ℕ) (marks : List Bool) (f : List ℕ) (n : ℕ) →
    Walk rows ps marks f [] → n < length rows → Walk rows ps marks f (n ∷ [])
walk_opens rows ps marks f n w lt = record {
  marked = w.marked;
  marks_count = w.marks_count;
  passed_count = w.passed_count;
  range = All-push (λ k. k < length rows) [] n (All-nil (λ k. k < length rows)) lt;
  way = on_one (row rows) n;
  seen = λ u k l k_in. Contains-append_left f (n ∷ []) (get_or (row rows u) k 0)
      (subst (λ j. Contains j (get_or (row rows u) k 0)) (append-nil f) (w.seen u k l k_in));
  whole = w.whole;
  order = w.order;
}

-- a number on top of a stack that was read
row_entry : (rows : List (Vec ℕ Global)) (t p n : ℕ) (v : Vec ℕ Global) → t < length rows → v ≡ get_or rows t v →
    p < length v.items → n ≡ get_or v.items p n → (p < length (row rows t)) × (get_or (row rows t) p 0 ≡ n)
row_entry rows t p n v t_in e b q =
    let same : row rows t ≡ v.items = row_at rows t v t_in ∙ sym (ap (λ (w : Vec ℕ Global). w.items) e) in (
      subst (λ l. p < length l) (sym same) b,
      subst (λ l. get_or l p 0 ≡ n) (sym same) (get_or_default v.items p 0 n b ∙ sym q),
    )

row_passed : (rows : List (Vec ℕ Global)) (t p : ℕ) (v : Vec ℕ Global) → t < length rows → v ≡ get_or rows t v →
    length v.items ≤ p → length (row rows t) ≤ p
row_passed rows t p v t_in e b =
    let same : row rows t ≡ v.items = row_at rows t v t_in ∙ sym (ap (λ (w : Vec ℕ Global). w.items) e) in
    subst (λ l. length l ≤ p) (sym same) b

top_in_range : (rows : List (Vec ℕ Global)) (ps : List ℕ) (marks : List Bool) (f s : List ℕ) (t : ℕ) →
    Walk rows ps marks f (s ++ t ∷ []) → t < length rows
top_in_range rows ps marks f s t w = All-contains (λ k. k < length rows) (s ++ t ∷ []) t w.range (Contains-push s t)

-- one more number is finished
pub all_more : (f f' : List ℕ) (number : ℕ) → ((n : ℕ) → n < number → Contains f n) →
    ((n : ℕ) → Contains (f ++ number ∷ []) n → Contains f' n) → (n : ℕ) → n < number + 1 → Contains f' n
all_more f f' number all kept n lt = elim (cases_lt n number) [
  | inl q ↦ kept n (Contains-append_left f (number ∷ []) n (all n q))
  | inr q ↦ let e : number ≡ n = omega (arith, lt, q) in
      subst (λ k. Contains f' k) e (kept number (Contains-push f number))
]

-- an entry that was read: the number n at the place p of t's row, where p entries are passed
pub record Entry (rows : List (Vec ℕ Global)) (ps : List ℕ) (t p n : ℕ) : Type 0 where
  pub in_rows : t < length rows
  pub passed : get_or ps t 0 ≡ p
  pub within : p < length (row rows t)
  pub is : get_or (row rows t) p 0 ≡ n

passed_read : (rows : List (Vec ℕ Global)) (ps : List ℕ) (marks : List Bool) (f s : List ℕ) (t p : ℕ) →
    Walk rows ps marks f (s ++ t ∷ []) → p ≡ get_or ps t p → get_or ps t 0 ≡ p
passed_read rows ps marks f s t p w e =
    let t_in : t < length ps = subst (λ k. t < k) (sym w.passed_count) (top_in_range rows ps marks f s t w) in
    get_or_default ps t 0 p t_in ∙ sym e

pub entry : (rows : List (Vec ℕ Global)) (ps : List ℕ) (marks : List Bool) (f s : List ℕ) (t p n : ℕ) (v : Vec ℕ Global) →
    Walk rows ps marks f (s ++ t ∷ []) → p ≡ get_or ps t p → v ≡ get_or rows t v → p < length v.items → n ≡ get_or v.items p n →
    Entry rows ps t p n
entry rows ps marks f s t p n v w e at b q =
    let t_in : t < length rows = top_in_range rows ps marks f s t w in
    let read : (p < length (row rows t)) × (get_or (row rows t) p 0 ≡ n) = row_entry rows t p n v t_in at b q in
    record { in_rows = t_in; passed = passed_read rows ps marks f s t p w e; within = read.0; is = read.1 }

pub all_passed : (rows : List (Vec ℕ Global)) (ps : List ℕ) (marks : List Bool) (f s : List ℕ) (t p : ℕ) (v : Vec ℕ Global) →
    Walk rows ps marks f (s ++ t ∷ []) → p ≡ get_or ps t p → v ≡ get_or rows t v → length v.items ≤ p →
    length (row rows t) ≤ get_or ps t 0
all_passed rows ps marks f s t p v w e at b =
    subst (λ k. length (row rows t) ≤ k) (sym (passed_read rows ps marks f s t p w e))
    (row_passed rows t p v (top_in_range rows ps marks f s t w) at b)
