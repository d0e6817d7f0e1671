-- Numbers that ascend, and the one job among them that is taken out.
use Rattle.std.proofs.Common.{◌≡◌, ℕ, zero, suc, ◌<◌, ◌≤◌, Bool, true, false, not, cond, List, [], ◌∷◌, ◌++◌, length, map, drop, get_or, ap, sym, subst, refl, ◌∙◌, arith}
use Rattle.std.specs.Prelude.{filter, remove}
use Rattle.std.specs.List.{AllByRecursion}
use Rattle.gq_events.specs.Jobs.{JobOf}
use Rattle.gq_events.specs.Laws.{AreAscending}
use Rattle.gq_desk.specs.Helping.Settling.{AreNumbered}

abbrev number : JobOf → ℕ
number job = job.number

-- ---- numbers that ascend

lower : (low low' : ℕ) (ns : List ℕ) (high : ℕ) → low' ≤ low → AreAscending low ns high → AreAscending low' ns high
lower low low' [] high h a = omega arith
lower low low' (n ∷ ns) high h a = (let first : low ≤ n = a.0 in omega arith, a.1)

ascends_end : (low : ℕ) (ns : List ℕ) (high : ℕ) → AreAscending low ns high → low ≤ high
ascends_end low [] high a = a
ascends_end low (n ∷ ns) high a = let first : low ≤ n = a.0 in let rest = ascends_end (suc n) ns high a.1 in omega arith

ascends_by : (b : Bool) (low : ℕ) (job : JobOf) (jobs : List JobOf) (high : ℕ) → low ≤ job.number → AreAscending (suc job.number) (map number jobs) high → AreAscending low (map number (cond b (job ∷ jobs) jobs)) high
ascends_by true low job jobs high h a = (h, a)
ascends_by false low job jobs high h a = lower (suc job.number) low (map number jobs) high (omega arith) a

ascends_kept : (p : JobOf → Bool) (low : ℕ) (jobs : List JobOf) (high : ℕ) → AreAscending low (map number jobs) high → AreAscending low (map number (filter p jobs)) high
ascends_kept p low [] high a = a
ascends_kept p low (job ∷ jobs) high a = ascends_by (p job) low job (filter p jobs) high a.0 (ascends_kept p (suc job.number) jobs high a.1)

ascends_more : (low : ℕ) (jobs : List JobOf) (high : ℕ) (job : JobOf) → job.number ≡ high → AreAscending low (map number jobs) high → AreAscending low (map number (jobs ++ job ∷ [])) (suc high)
ascends_more low [] high job e a = (let low_is : low ≤ high = a in omega arith, omega arith)
ascends_more low (first ∷ jobs) high job e a = (a.0, ascends_more (suc first.number) jobs high job e a.1)

-- those that are kept are numbered as they were
pub kept_numbered : (p : JobOf → Bool) (jobs jobs' : List JobOf) (next : ℕ) → jobs' ≡ filter p jobs → AreNumbered jobs next → AreNumbered jobs' next
kept_numbered p jobs jobs' next e a = rw e (ascends_kept p 1 jobs next a)

pub none_numbered : (jobs jobs' : List JobOf) (next : ℕ) → jobs' ≡ [] → AreNumbered jobs next → AreNumbered jobs' next
none_numbered jobs jobs' next e a = rw e (ascends_end 1 (map number jobs) next a)

-- one more of the next number
pub more_numbered : (jobs jobs' : List JobOf) (next next' : ℕ) (job : JobOf) → jobs' ≡ jobs ++ job ∷ [] → job.number ≡ next → next' ≡ suc next → AreNumbered jobs next → AreNumbered jobs' next'
more_numbered jobs jobs' next next' job e is after a = rw (e, after) (ascends_more 1 jobs next job is a)

-- ---- one that is taken out

pub none_passes : (p : JobOf → Bool) (jobs : List JobOf) → AllByRecursion (λ job. p job ≡ false) jobs → filter p jobs ≡ []
none_passes p [] h = refl
none_passes p (job ∷ jobs) h = rw h.0 (none_passes p jobs h.1)

pub all_stay : (p : JobOf → Bool) (jobs : List JobOf) → AllByRecursion (λ job. p job ≡ false) jobs → filter (λ job. not (p job)) jobs ≡ jobs
all_stay p [] h = refl
all_stay p (job ∷ jobs) h = rw h.0 (ap (λ (l : List JobOf). job ∷ l) (all_stay p jobs h.1))

is_false : (b : Bool) → (b ≡ true → ⊥) → b ≡ false
is_false true h = absurd (h refl)
is_false false h = refl

above_at : (low : ℕ) (jobs : List JobOf) (high : ℕ) (i : ℕ) (d : JobOf) → AreAscending low (map number jobs) high → i < length jobs → low ≤ (get_or jobs i d).number
above_at low [] high i d a h = absurd (omega arith)
above_at low (job ∷ jobs) high zero d a h = a.0
above_at low (job ∷ jobs) high (suc i) d a h = let first : low ≤ job.number = a.0 in let rest = above_at (suc job.number) jobs high i d a.1 (omega arith) in omega arith

-- a test that one number alone passes
module _ (p : JobOf → Bool) (n : ℕ) (only : (job : JobOf) → p job ≡ true → job.number ≡ n) where
  none_after : (low : ℕ) (jobs : List JobOf) (high : ℕ) → suc n ≤ low → AreAscending low (map number jobs) high → AllByRecursion (λ job. p job ≡ false) jobs
  none_after low [] high h a = tt
  none_after low (job ∷ jobs) high h a =
      let first : low ≤ job.number = a.0 in
      (is_false (p job) (λ e. let same : job.number ≡ n = only job e in omega arith), none_after (suc job.number) jobs high (omega arith) a.1)

  not_before : (jobs : List JobOf) (high i : ℕ) (d job : JobOf) → AreAscending (suc job.number) (map number jobs) high → i < length jobs → p (get_or jobs i d) ≡ true → p job ≡ false
  not_before jobs high i d job a h e =
      let there : (get_or jobs i d).number ≡ n = only (get_or jobs i d) e in
      let above = above_at (suc job.number) jobs high i d a h in
      is_false (p job) (λ k. let here : job.number ≡ n = only job k in omega arith)

  after_it : (jobs : List JobOf) (high : ℕ) (job : JobOf) → AreAscending (suc job.number) (map number jobs) high → p job ≡ true → AllByRecursion (λ other. p other ≡ false) jobs
  after_it jobs high job a e = let same : job.number ≡ n = only job e in none_after (suc job.number) jobs high (omega arith) a

  taken_at : (low : ℕ) (jobs : List JobOf) (high i : ℕ) (d : JobOf) → AreAscending low (map number jobs) high → i < length jobs → p (get_or jobs i d) ≡ true → filter p jobs ≡ get_or jobs i d ∷ []
  taken_at low [] high i d a h e = absurd (omega arith)
  taken_at low (job ∷ jobs) high zero d a h e = rw e (ap (λ (l : List JobOf). job ∷ l) (none_passes p jobs (after_it jobs high job a.1 e)))
  taken_at low (job ∷ jobs) high (suc i) d a h e =
      let other = not_before jobs high i d job a.1 (omega arith) e in
      rw other (taken_at (suc job.number) jobs high i d a.1 (omega arith) e)

  left_at : (low : ℕ) (jobs : List JobOf) (high i : ℕ) (d : JobOf) → AreAscending low (map number jobs) high → i < length jobs → p (get_or jobs i d) ≡ true → filter (λ job. not (p job)) jobs ≡ remove jobs i
  left_at low [] high i d a h e = absurd (omega arith)
  left_at low (job ∷ jobs) high zero d a h e = rw e (all_stay p jobs (after_it jobs high job a.1 e) ∙ whole jobs)
    where
      whole : (jobs : List JobOf) → jobs ≡ drop zero jobs
      whole [] = refl
      whole (job ∷ jobs) = refl
  left_at low (job ∷ jobs) high (suc i) d a h e =
      let other = not_before jobs high i d job a.1 (omega arith) e in
      rw other (ap (λ (l : List JobOf). job ∷ l) (left_at (suc job.number) jobs high i d a.1 (omega arith) e))

  -- as a function reads them: the list that it looked at is this one
  module _ (items slice : List JobOf) (i : ℕ) (x : JobOf) (same : slice ≡ items) (numbered : (next : ℕ) × AreNumbered items next) (found : (i < length slice) × ((d : JobOf) → p (get_or slice i d) ≡ true)) where
    here : (i < length items) × ((d : JobOf) → p (get_or items i d) ≡ true)
    here = subst (λ (l : List JobOf). (i < length l) × ((d : JobOf) → p (get_or l i d) ≡ true)) same found

    pub taken_in : x ≡ get_or items i x → filter p items ≡ x ∷ []
    taken_in e = taken_at 1 items numbered.0 i x numbered.1 here.0 (here.1 x) ∙ ap (λ (y : JobOf). y ∷ []) (sym e)

    pub left_in : filter (λ job. not (p job)) items ≡ remove items i
    left_in = left_at 1 items numbered.0 i x numbered.1 here.0 (here.1 x)
