-- What is pending, what waits and what is out, one place further. The tests are of any kind.
use Rattle.std.proofs.Common.{length, ◌≡◌, ℕ, zero, suc, ◌<◌, ◌≤◌, nat_lt, Bool, true, false, cond, not, ◌&&◌, ◌||◌, ◌==◌, List, [], ◌∷◌, ◌++◌, take, drop, ap, sym, refl, ◌∙◌, subst, arith}
use Rattle.std.specs.Prelude.{filter}
use Rattle.std.specs.List.{AllByRecursion, list_any}
use Rattle.std.proofs.lemmas.Bool.Decides.{nat_tests}
use Rattle.std.proofs.lemmas.List.Folds.{list_any-append}
use Rattle.std.proofs.lemmas.List.Elements.{filter-append}
use Rattle.gq_events.specs.Jobs.{JobOf}
use Rattle.gq_events.specs.History.{is_between, Handed, is_waiting, handed_in}
use Rattle.gq_events.proofs.Lists.{filter_both, filter_same, filter_all, every, weaker}

no_or : (a b c : Bool) → a ≡ false → b ≡ false → (a || (b && c)) ≡ false
no_or a b c e f = rw (e, f) refl

-- nothing lies between a place and the next
pub none_between : (test : ℕ → Bool) (i j : ℕ) → j ≤ suc i → is_between test i j ≡ false
none_between test i zero h = refl
none_between test i (suc k) h = no_or _ (nat_lt i k) (test k) (none_between test i k (omega arith)) (grind (arith, nat_tests))

not_later : (b l t : Bool) → l ≡ true → not (b || (l && t)) ≡ (not b && not t)
not_later true l t h = refl
not_later false l t h = rw h refl

-- one place further, for a test of each element
module _ {X : Type 0} (place : X → ℕ) (test : X → ℕ → Bool) (j : ℕ) where
  abbrev pub untouched : ℕ → X → Bool
  untouched k x = not (is_between (test x) (place x) k)

  further_each : (xs : List X) → AllByRecursion (λ x. place x < j) xs → AllByRecursion (λ x. untouched (suc j) x ≡ (untouched j x && not (test x j))) xs
  further_each [] h = tt
  further_each (x ∷ xs) h = (not_later _ (nat_lt (place x) j) (test x j) (let before : place x < j = h.0 in grind (arith, nat_tests)), further_each xs h.1)

  -- those before place j
  pub further_old : (xs : List X) → AllByRecursion (λ x. place x < j) xs → filter (untouched (suc j)) xs ≡ filter (λ x. not (test x j)) (filter (untouched j) xs)
  further_old xs h = filter_same _ _ xs (further_each xs h) ∙ filter_both (λ x. not (test x j)) (untouched j) xs

  further_new_each : (xs : List X) → AllByRecursion (λ x. place x ≡ j) xs → AllByRecursion (λ x. untouched (suc j) x ≡ true) xs
  further_new_each [] h = tt
  further_new_each (x ∷ xs) h = (ap not (none_between (test x) (place x) (suc j) (let here : place x ≡ j = h.0 in omega arith)), further_new_each xs h.1)

  pub further_new : (new : List X) → AllByRecursion (λ x. place x ≡ j) new → filter (untouched (suc j)) new ≡ new
  further_new new k = filter_all _ new (further_new_each new k)

  -- those that come at place j
  pub further : (xs new : List X) → AllByRecursion (λ x. place x < j) xs → AllByRecursion (λ x. place x ≡ j) new
      → filter (untouched (suc j)) (xs ++ new) ≡ filter (λ x. not (test x j)) (filter (untouched j) xs) ++ new
  further xs new h k =
      filter-append (untouched (suc j)) xs new ∙ (ap (λ ys. ys ++ filter (untouched (suc j)) new) (further_old xs h) ∙ ap (λ ys. filter (λ x. not (test x j)) (filter (untouched j) xs) ++ ys) (further_new new k))

-- numbers that ascend, from low on and below high
abbrev pub Ascends : ℕ → List JobOf → ℕ → Type 0
Ascends low [] high = low ≤ high
Ascends low (job ∷ jobs) high = (low ≤ job.number) × Ascends (suc job.number) jobs high

pub lower : (low low' : ℕ) (jobs : List JobOf) (high : ℕ) → low' ≤ low → Ascends low jobs high → Ascends low' jobs high
lower low low' [] high h a = omega arith
lower low low' (job ∷ jobs) high h a = (let first : low ≤ job.number = a.0 in omega arith, a.1)

ascends_by : (b : Bool) (low : ℕ) (job : JobOf) (jobs : List JobOf) (high : ℕ) → low ≤ job.number → Ascends (suc job.number) jobs high → Ascends low (cond b (job ∷ jobs) jobs) high
ascends_by true low job jobs high h a = (h, a)
ascends_by false low job jobs high h a = lower (suc job.number) low jobs high (omega arith) a

pub ascends_kept : (p : JobOf → Bool) (low : ℕ) (jobs : List JobOf) (high : ℕ) → Ascends low jobs high → Ascends low (filter p jobs) high
ascends_kept p low [] high a = a
ascends_kept p low (job ∷ jobs) high a = ascends_by (p job) low job (filter p jobs) high a.0 (ascends_kept p (suc job.number) jobs high a.1)

pub ascends_end : (low : ℕ) (jobs : List JobOf) (high : ℕ) → Ascends low jobs high → low ≤ high
ascends_end low [] high a = a
ascends_end low (job ∷ jobs) high a = let first : low ≤ job.number = a.0 in let rest = ascends_end (suc job.number) jobs high a.1 in omega arith

-- the next number at the end
pub ascends_more : (low : ℕ) (jobs : List JobOf) (high : ℕ) (job : JobOf) → job.number ≡ high → Ascends low jobs high → Ascends low (jobs ++ job ∷ []) (suc high)
ascends_more low [] high job e a = (let low_is : low ≤ high = a in omega arith, omega arith)
ascends_more low (first ∷ jobs) high job e a = (a.0, ascends_more (suc first.number) jobs high job e a.1)

-- each number is below the end
pub ascends_below : (low : ℕ) (jobs : List JobOf) (high : ℕ) → Ascends low jobs high → AllByRecursion (λ job. job.number < high) jobs
ascends_below low [] high a = tt
ascends_below low (job ∷ jobs) high a = (ascends_end (suc job.number) jobs high a.1, ascends_below (suc job.number) jobs high a.1)

ascends_above : (low : ℕ) (jobs : List JobOf) (high : ℕ) → Ascends low jobs high → AllByRecursion (λ job. low ≤ job.number) jobs
ascends_above low [] high a = tt
ascends_above low (job ∷ jobs) high a =
    (a.0, weaker _ _ (λ other h. let first : low ≤ job.number = a.0 in omega arith) jobs (ascends_above (suc job.number) jobs high a.1))

-- taken from the front, the rest is left
front_gone : (b : Bool) (x : JobOf) (xs : List JobOf) → b ≡ false → cond b (x ∷ xs) xs ≡ xs
front_gone b x xs e = rw e refl

not_first : (a b : Bool) → a ≡ false → not (a || b) ≡ not b
not_first a b e = rw e refl

others : (j : ℕ) (job : JobOf) (taken jobs : List JobOf) → AllByRecursion (λ other. suc job.number ≤ other.number) jobs
    → AllByRecursion (λ other. is_waiting (handed_in j (job ∷ taken)) other ≡ is_waiting (handed_in j taken) other) jobs
others j job taken [] h = tt
others j job taken (other ∷ jobs) h = (not_first (job.number == other.number) _ (let above : suc job.number ≤ other.number = h.0 in grind (arith, nat_tests)), others j job taken jobs h.1)

pub rest_waits : (j low : ℕ) (jobs : List JobOf) (high room : ℕ) → Ascends low jobs high → filter (is_waiting (handed_in j (take room jobs))) jobs ≡ drop room jobs
rest_waits j low [] high zero a = refl
rest_waits j low [] high (suc room) a = refl
rest_waits j low (job ∷ jobs) high zero a = filter_all _ (job ∷ jobs) (every _ (λ other. refl) (job ∷ jobs))
rest_waits j low (job ∷ jobs) high (suc room) a =
    front_gone (is_waiting (handed_in j (job ∷ take room jobs)) job) job _ (same_number job.number (list_any (λ h. h.number == job.number) (handed_in j (take room jobs))))
    ∙ (filter_same _ _ jobs (others j job (take room jobs) jobs (ascends_above (suc job.number) jobs high a.1))
    ∙ rest_waits j (suc job.number) jobs high room a.1)
  where
    same_number : (n : ℕ) (b : Bool) → not ((n == n) || b) ≡ false
    same_number n b = let e : (n == n) ≡ true = grind (arith, nat_tests) in rw e refl

not_any : (a b : Bool) → not (a || b) ≡ (not a && not b)
not_any true b = refl
not_any false b = refl

-- waiting after more was handed on
pub waiting_more : (handed more : List Handed) (jobs : List JobOf) → filter (is_waiting (handed ++ more)) jobs ≡ filter (is_waiting more) (filter (is_waiting handed) jobs)
waiting_more handed more jobs =
    filter_same _ _ jobs (every _ (λ job. ap not (list_any-append (λ h. h.number == job.number) handed more) ∙ not_any _ (list_any (λ h. h.number == job.number) more)) jobs)
    ∙ filter_both (is_waiting more) (is_waiting handed) jobs

-- a job with a number of its own was not handed on
new_waits_one : (number : ℕ) (handed : List Handed) → AllByRecursion (λ h. h.number < number) handed → list_any (λ h. h.number == number) handed ≡ false
new_waits_one number [] h = refl
new_waits_one number (one ∷ handed) h =
    let below : one.number < number = h.0 in
    let other : (one.number == number) ≡ false = grind (arith, nat_tests) in
    rw other (new_waits_one number handed h.1)

pub new_wait : (handed : List Handed) (jobs : List JobOf) (number : ℕ) → AllByRecursion (λ h. h.number < number) handed → AllByRecursion (λ job. job.number ≡ number) jobs → filter (is_waiting handed) jobs ≡ jobs
new_wait handed jobs number h k = filter_all _ jobs (weaker _ _ (λ job e. ap not (subst (λ (n : ℕ). list_any (λ h. h.number == n) handed ≡ false) (sym e) (new_waits_one number handed h))) jobs k)

-- of ascending numbers one is that number, at most
other_number : (b : Bool) (n number low : ℕ) (job : JobOf) (jobs : List JobOf) → (b ≡ true → number ≡ n) → suc n ≤ low → low ≤ number → jobs ≡ [] → cond b (job ∷ jobs) jobs ≡ []
other_number true n number low job jobs only h k e = let same : number ≡ n = only refl in absurd (omega arith)
other_number false n number low job jobs only h k e = e

none_more : (p : JobOf → Bool) (n : ℕ) → ((job : JobOf) → p job ≡ true → job.number ≡ n) → (low : ℕ) (jobs : List JobOf) (high : ℕ) → suc n ≤ low → Ascends low jobs high → filter p jobs ≡ []
none_more p n only low [] high h a = refl
none_more p n only low (job ∷ jobs) high h a =
    other_number (p job) n job.number low job (filter p jobs) (only job) h a.0 (none_more p n only (suc job.number) jobs high (let first : low ≤ job.number = a.0 in omega arith) a.1)

one_number : (b : Bool) (p : JobOf → Bool) (n : ℕ) (job : JobOf) (jobs : List JobOf) (high : ℕ) → ((other : JobOf) → p other ≡ true → other.number ≡ n) → (b ≡ true → job.number ≡ n) → Ascends (suc job.number) jobs high
    → length (filter p jobs) ≤ 1 → length (cond b (job ∷ filter p jobs) (filter p jobs)) ≤ 1
one_number true p n job jobs high only here a rest =
    let same : job.number ≡ n = here refl in
    let none : filter p jobs ≡ [] = none_more p n only (suc job.number) jobs high (omega arith) a in
    let short : length (filter p jobs) ≡ 0 = ap length none in
    omega arith
one_number false p n job jobs high only here a rest = rest

pub at_most_one : (p : JobOf → Bool) (n : ℕ) → ((job : JobOf) → p job ≡ true → job.number ≡ n) → (low : ℕ) (jobs : List JobOf) (high : ℕ) → Ascends low jobs high → length (filter p jobs) ≤ 1
at_most_one p n only low [] high a = omega arith
at_most_one p n only low (job ∷ jobs) high a = one_number (p job) p n job jobs high only (only job) a.1 (at_most_one p n only (suc job.number) jobs high a.1)
