-- Ways joined, walked the other way round, and out of a list of numbers.
use Rattle.std.proofs.Common.{ℕ, List, [], ◌∷◌, ◌++◌, ◌<◌, ◌≡◌, ◌⊎◌, inl, inr, subst, sym, refl, arith, ap, length}
use Rattle.std.specs.Prelude.{Contains}
use Rattle.std.proofs.lemmas.List.Elements.{Contains-append_left, Contains-append_right, Contains-append_cases, Contains-push, Contains-push_cases}
use Rattle.std.proofs.lemmas.List.{same_from_push, length_push}
use Rattle.std.proofs.lemmas.Bool.{cases_eq}
use Rattle.gq_graph.specs.Reach.{Reach, start, step}
use Rattle.gq_graph.specs.Helping.Finished.{Back, Finished, nothing, finish}

pub contains_nothing : (n : ℕ) → Contains [] n → ⊥
contains_nothing n h = let b : h.0 < 0 = h.1 in omega (arith, b)

pub contains_one : (m n : ℕ) → Contains (m ∷ []) n → n ≡ m
contains_one m n h = elim (Contains-push_cases [] m n h) [ inl q ↦ absurd (contains_nothing n q) | inr q ↦ sym q ]

pub one_contains : (m : ℕ) → Contains (m ∷ []) m
one_contains m = Contains-push [] m

contains_cons : (m : ℕ) (ns : List ℕ) (n : ℕ) → Contains ns n → Contains (m ∷ ns) n
contains_cons m ns n h = Contains-append_right (m ∷ []) ns n h

-- a number is on a list or not
pub contains_cases : (ns : List ℕ) (n : ℕ) → Contains ns n ⊎ (Contains ns n → ⊥)
contains_cases [] n = inr (contains_nothing n)
contains_cases (m ∷ ns) n = elim (cases_eq n m) [
  | inl q ↦ inl (subst (λ k. Contains (m ∷ ns) k) (sym q) (Contains-append_left (m ∷ []) ns m (one_contains m)))
  | inr q ↦ elim (contains_cases ns n) [
    | inl h ↦ inl (contains_cons m ns n h)
    | inr h ↦ inr (λ both. elim (Contains-append_cases (m ∷ []) ns n both) [ inl a ↦ q (contains_one m n a) | inr b ↦ h b ])
  ]
]

-- a way goes on from its last number
pub way_on : (starts : List ℕ) (next : ℕ → List ℕ) (m n : ℕ) →
    Reach starts next m → Reach (m ∷ []) next n → Reach starts next n
way_on starts next m n r (start h) = subst (λ k. Reach starts next k) (sym (contains_one m n h)) r
way_on starts next m n r (step {m = k} s h) = step (way_on starts next m k r s) h

-- one step more at the beginning
pub way_from : (next : ℕ → List ℕ) (m b n : ℕ) → Contains (next m) b → Reach (b ∷ []) next n → Reach (next m) next n
way_from next m b n h r = way_on (next m) next b n (start h) r

pub way_of : (next : ℕ → List ℕ) (m n : ℕ) → Reach (next m) next n → Reach (m ∷ []) next n
way_of next m n (start h) = step (start (one_contains m)) h
way_of next m n (step {m = k} r h) = step (way_of next m k r) h

-- the first step of a way
pub record FirstStep (next : ℕ → List ℕ) (starts : List ℕ) (n : ℕ) : Type 0 where
  pub by : ℕ
  pub on : Contains starts by
  pub rest : Reach (by ∷ []) next n

pub first_step : (next : ℕ → List ℕ) (starts : List ℕ) (n : ℕ) → Reach starts next n → FirstStep next starts n
first_step next starts n (start h) = record { by = n; on = h; rest = start (one_contains n) }
first_step next starts n (step {m = k} r h) =
    let f : FirstStep next starts k = first_step next starts k r in
    record { by = f.by; on = f.on; rest = step f.rest h }

-- more starts reach no less
pub way_starts : (next : ℕ → List ℕ) (starts more : List ℕ) → ((n : ℕ) → Contains starts n → Contains more n) →
    (n : ℕ) → Reach starts next n → Reach more next n
way_starts next starts more f n (start h) = start (f n h)
way_starts next starts more f n (step {m = k} r h) = step (way_starts next starts more f k r) h

-- a way walked backwards
pub way_back : (next prev : ℕ → List ℕ) (turn : (m n : ℕ) → Contains (prev n) m → Contains (next m) n) (n m : ℕ) →
    Reach (n ∷ []) prev m → Reach (m ∷ []) next n
way_back next prev turn n m (start h) = start (subst (λ k. Contains (k ∷ []) n) (sym (contains_one n m h)) (one_contains n))
way_back next prev turn n m (step {m = k} r h) =
    way_on (m ∷ []) next k n (step (start (one_contains m)) (turn m k h)) (way_back next prev turn n k r)

-- on a list that holds all that leads to its numbers, a way into it began
pub way_into : (next : ℕ → List ℕ) (found : List ℕ) → ((m n : ℕ) → Contains found n → Contains (next m) n → Contains found m) →
    (m n : ℕ) → Reach (m ∷ []) next n → Contains found n → Contains found m
way_into next found closed m n (start h) c = subst (λ k. Contains found k) (contains_one m n h) c
way_into next found closed m n (step {m = k} r h) c = way_into next found closed m k r (closed k n c h)

-- the step by which a way leaves a list
pub record Leaves (next : ℕ → List ℕ) (list : List ℕ) (w : ℕ) : Type 0 where
  pub last : ℕ
  pub out : ℕ
  pub in_it : Contains list last
  pub is_step : Contains (next last) out
  pub outside : Contains list out → ⊥
  pub way : Reach (w ∷ []) next out

leaves : (next : ℕ → List ℕ) (list : List ℕ) (w x : ℕ) → Contains list w → (Contains list x → ⊥) → Reach (w ∷ []) next x →
    Leaves next list w
leaves next list w x i o (start h) = absurd (o (subst (λ k. Contains list k) (sym (contains_one w x h)) i))
leaves next list w x i o (step {m = k} r h) = elim (contains_cases list k) [
  | inl q ↦ record { last = k; out = x; in_it = q; is_step = h; outside = o; way = step r h }
  | inr q ↦ leaves next list w k i q r
]

-- a number outside of the list, with ways to it and from it
pub record Beyond (next : ℕ → List ℕ) (list : List ℕ) (w : ℕ) : Type 0 where
  pub by : ℕ
  pub outside : Contains list by → ⊥
  pub to : Reach (w ∷ []) next by
  pub from : Reach (by ∷ []) next w

-- where the list was finished in order, the number that was finished last
beyond_last : (next : ℕ → List ℕ) (list : List ℕ) (n x : ℕ) → Contains list n → Back next list n →
    (Contains list x → ⊥) → Reach (n ∷ []) next x → Beyond next list n
beyond_last next list n x i b o r =
    let l : Leaves next list n = leaves next list n x i o r in
    record {
      by = l.out;
      outside = l.outside;
      to = l.way;
      from = elim (b l.last l.out l.in_it l.is_step) [ inl q ↦ absurd (l.outside q) | inr q ↦ q ];
    }

-- a way that leads out of finished numbers leads to a number outside that leads back
pub beyond : (next : ℕ → List ℕ) (list : List ℕ) → Finished next list → (w x : ℕ) → Contains list w → (Contains list x → ⊥) →
    Reach (w ∷ []) next x → Beyond next list w
beyond next list nothing w x i o r = absurd (contains_nothing w i)
beyond next list (finish {numbers = l} {number = n} f new b) w x i o r =
    let last : (y : ℕ) → (Contains (l ++ n ∷ []) y → ⊥) → Reach (n ∷ []) next y → Beyond next (l ++ n ∷ []) n =
    λ y out way. beyond_last next (l ++ n ∷ []) n y (Contains-push l n) b out way in
    elim (Contains-push_cases l n w i) [
      | inr q ↦ subst (λ k. Beyond next (l ++ n ∷ []) k) q (last x o (subst (λ k. Reach (k ∷ []) next x) (sym q) r))
      | inl q ↦ let before : Beyond next l w =
          beyond next l f w x q (λ h. o (Contains-append_left l (n ∷ []) x h)) r in
          elim (cases_eq before.by n) [
            | inl same ↦
                let there : Reach (w ∷ []) next n = subst (λ k. Reach (w ∷ []) next k) same before.to in
                let again : Reach (n ∷ []) next w = subst (λ k. Reach (k ∷ []) next w) same before.from in
                let out : Beyond next (l ++ n ∷ []) n = last x o (way_on (n ∷ []) next w x again r) in
                record {
                  by = out.by;
                  outside = out.outside;
                  to = way_on (w ∷ []) next n out.by there out.to;
                  from = way_on (out.by ∷ []) next n w out.from again;
                }
            | inr other ↦ record {
              by = before.by;
              outside = λ h. elim (Contains-push_cases l n before.by h) [
                | inl k ↦ before.outside k
                | inr k ↦ other (sym k)
              ];
              to = before.to;
              from = before.from;
            }
          ]
    ]

-- what was finished before the last number, and the last number
pub record Parts (next : ℕ → List ℕ) (l : List ℕ) (n : ℕ) : Type 0 where
  pub before : Finished next l
  pub new : Contains l n → ⊥

finished_parts : (next : ℕ → List ℕ) (list : List ℕ) → Finished next list → (l : List ℕ) (n : ℕ) → list ≡ l ++ n ∷ [] → Parts next l n
finished_parts next list nothing l n e =
    let h : length (l ++ n ∷ []) ≡ 0 = sym (ap (λ (k : List ℕ). length k) e) in
    absurd (omega (arith, h, length_push l n))
finished_parts next list (finish {numbers = k} {number = m} f new b) l n e =
    let p : (k ≡ l) × (m ≡ n) = same_from_push k l m n e in
    record {
      before = subst (λ j. Finished next j) p.0 f;
      new = subst (λ j. Contains l j → ⊥) p.1 (subst (λ j. Contains j m → ⊥) p.0 new);
    }

pub finished_pop : (next : ℕ → List ℕ) (l : List ℕ) (n : ℕ) → Finished next (l ++ n ∷ []) → Parts next l n
finished_pop next l n f = finished_parts next (l ++ n ∷ []) f l n refl
