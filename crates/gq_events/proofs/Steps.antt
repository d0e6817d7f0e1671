-- The machine's step leads from the state that the first j events tell to the one that one more tells, and puts out what they tell.
use Rattle.std.proofs.lemmas.Bool.{cases_lt}
use Rattle.std.proofs.lemmas.Bool.Decides.{nat_tests}
use Rattle.std.proofs.Common.{◌&&◌, ◌||◌, inl, inr, ◌⊎◌, ◌≡◌, ℕ, zero, suc, ◌+◌, ◌-◌, ◌<◌, ◌≤◌, Bool, true, false, cond, not, ◌==◌, List, [], ◌∷◌, ◌++◌, length, map, take, drop, Option, Some, None, ap, sym, refl, ◌∙◌, subst, arith, add-zero}
use Rattle.std.specs.Prelude.{filter, flat_map}
use Rattle.std.specs.List.{AllByRecursion, list_any}
use Rattle.std.specs.Cmp.{int_eq_equiv}
use Rattle.std.specs.Cmp.Lexicographic.{nat_list_eq_equiv}
use Rattle.std.proofs.lemmas.List.{map-append, length-map, length-append, length-drop, append-nil, append_assoc, take-append-drop, length-take, drop_all}
use Rattle.std.proofs.lemmas.List.Elements.{filter-append}
use Rattle.std.proofs.lemmas.List.Folds.{flat_map-map}
use Rattle.std.proofs.Math.Seq.{drop-cons, take-nil}
use Rattle.gq_text.specs.declared.place.PositionEncoding.{PositionEncoding}
use Rattle.gq_rpc.specs.declared.messages.Id.{Id}
use Rattle.gq_rpc.specs.declared.messages.Id.TheVariants as ids
use Rattle.gq_rpc.specs.declared.messages.Question.{Question}
use Rattle.gq_rpc.specs.declared.messages.ResponseError.TheVariants as error
use Rattle.gq_events.specs.declared.refusals.Denial.{Denial}
use Rattle.gq_events.specs.declared.refusals.Denial.TheVariants as denial
use Rattle.gq_events.specs.declared.documents.SessionDocument.{SessionDocument}
use Rattle.gq_events.specs.declared.event.Task.{Task}
use Rattle.gq_events.specs.declared.event.Task.TheVariants as task
use Rattle.gq_events.specs.Jobs.{JobOf, DoneOf}
use Rattle.gq_events.specs.declared.event.Answer.{Answer}
use Rattle.gq_events.specs.declared.event.Out.{Out}
use Rattle.gq_events.specs.declared.event.Out.TheVariants as out
use Rattle.gq_events.specs.declared.effect.Phase.{Phase}
use Rattle.gq_events.specs.declared.effect.Phase.TheVariants.{Stopped}
use Rattle.gq_events.specs.declared.effect.Effect.{Effect}
use Rattle.gq_events.specs.declared.effect.Effect.TheVariants as effect
use Rattle.gq_events.specs.Tasks.{same_id, is_of}
use Rattle.gq_events.specs.Rules.{accepted, taken, denied_by, denial_of_ask, effect_of, changed_by, Turn, Session, decides, verdict, own, finishes, out_max}
use Rattle.gq_events.specs.History.{idle, outputs, session_at, docs_at, effect_at, turn_at, Asked, may_decide, is_pending, numbered, denied_at, taken_at, asked_before, Handed, is_out, is_waiting, waiting_at, handed_at, handed_in, handed_before, decided_at, pending_at, at_once, changed_at, outputs_at, outputs_from, IsAnswered}
use Rattle.gq_events.specs.Laws.{AreAscending, Differs, HaveOwnIds}
use Rattle.gq_events.specs.Machine.{State, Table, start, left, job_for, jobs_then, still_out, room_for, after, writes, run, reached, handed_on, next_jobs, writes_effect, FitsTurn, FitsRun}
use Rattle.gq_events.proofs.Lists.{filter_both, filter_swap, filter_all, filter_none, every, filter_shorter, map_filter, weaker, both, kept}
use Rattle.gq_events.proofs.Places.{further, further_old, further_new, Ascends, lower, ascends_kept, ascends_more, ascends_below, at_most_one, rest_waits, waiting_more, new_wait}

-- the machine's state before the event at place j, told from the list of events
abbrev pub jobs_at : ℕ → List Turn → ℕ → Table
jobs_at workers events j = record {
  pending = pending_at workers events j;
  waiting = filter (is_waiting (handed_before workers events j)) (pending_at workers events j);
  out = map (λ handed. handed.number) (filter (is_out events j) (handed_before workers events j));
  next = length (asked_before workers events j) + 1;
}

abbrev pub state_at : ℕ → List Turn → ℕ → State
state_at workers events j = record { session = session_at events j; workers = workers; jobs = jobs_at workers events j }

-- what one event brings
abbrev brings : Bool → ℕ → ℕ → Option Task → List Asked
brings alone j number t = cond alone [] (numbered j number t)

brings_here : (alone : Bool) (j number : ℕ) (t : Option Task) → AllByRecursion (λ a. a.place ≡ j) (brings alone j number t)
brings_here true j number t = tt
brings_here false j number None = tt
brings_here false j number (Some t) = (refl, tt)

jobs_brought : (alone : Bool) (j number : ℕ) (t : Option Task) → map (λ a. a.job) (brings alone j number t) ≡ cond alone [] (job_for number t)
jobs_brought true j number t = refl
jobs_brought false j number None = refl
jobs_brought false j number (Some t) = refl

numbers_brought : (alone : Bool) (number : ℕ) (t : Option Task) → AllByRecursion (λ job. job.number ≡ number) (cond alone [] (job_for number t))
numbers_brought true number t = tt
numbers_brought false number None = tt
numbers_brought false number (Some t) = (refl, tt)

nothing_more : (asked : List Asked) → Ascends 1 (map (λ a. a.job) asked) (length asked + 1) → Ascends 1 (map (λ a. a.job) (asked ++ [])) (length (asked ++ []) + 1)
nothing_more asked h = rw append-nil h

ascends_brought : (asked : List Asked) (alone : Bool) (j : ℕ) (t : Option Task) → Ascends 1 (map (λ a. a.job) asked) (length asked + 1)
    → Ascends 1 (map (λ a. a.job) (asked ++ brings alone j (length asked + 1) t)) (length (asked ++ brings alone j (length asked + 1) t) + 1)
ascends_brought asked true j t h = nothing_more asked h
ascends_brought asked false j None h = nothing_more asked h
ascends_brought asked false j (Some t) h =
    let new : JobOf = record { number = length asked + 1; task = t } in
    let one : List Asked = record { place = j; job = new } ∷ [] in
    let longer : suc (length asked + 1) ≡ length (asked ++ one) + 1 = omega (arith, length-append asked one) in
    subst (λ (n : ℕ). Ascends 1 (map (λ a. a.job) (asked ++ one)) n) longer
    (subst (λ (jobs : List JobOf). Ascends 1 jobs (suc (length asked + 1))) (sym (map-append (λ a. a.job) asked one)) (ascends_more 1 (map (λ a. a.job) asked) (length asked + 1) new refl h))

all_front : {X : Type 0} (P : X → Type 0) (n : ℕ) (xs : List X) → AllByRecursion P xs → AllByRecursion P (take n xs)
all_front P zero [] h = tt
all_front P zero (x ∷ xs) h = tt
all_front P (suc n) [] h = tt
all_front P (suc n) (x ∷ xs) h = (h.0, all_front P n xs h.1)

all_handed : (P : ℕ → Type 0) (j : ℕ) (jobs : List JobOf) → AllByRecursion (λ job. P job.number) jobs → AllByRecursion (λ h. P h.number) (handed_in j jobs)
all_handed P j [] h = tt
all_handed P j (job ∷ jobs) h = (h.0, all_handed P j jobs h.1)

handed_here : (j : ℕ) (jobs : List JobOf) → AllByRecursion (λ h. h.place ≡ j) (handed_in j jobs)
handed_here j [] = tt
handed_here j (job ∷ jobs) = (refl, handed_here j jobs)

pub handed_numbers : (j : ℕ) (jobs : List JobOf) → map (λ h. h.number) (handed_in j jobs) ≡ map (λ job. job.number) jobs
handed_numbers j [] = refl
handed_numbers j (job ∷ jobs) = ap (λ ns. job.number ∷ ns) (handed_numbers j jobs)

asked_by : (b : Bool) (low : ℕ) (a : Asked) (asked : List Asked) (high : ℕ) → low ≤ a.job.number → Ascends (suc a.job.number) (map (λ a. a.job) asked) high → Ascends low (map (λ a. a.job) (cond b (a ∷ asked) asked)) high
asked_by true low a asked high h k = (h, k)
asked_by false low a asked high h k = lower (suc a.job.number) low (map (λ a. a.job) asked) high (omega arith) k

ascends_asked : (p : Asked → Bool) (low : ℕ) (asked : List Asked) (high : ℕ) → Ascends low (map (λ a. a.job) asked) high → Ascends low (map (λ a. a.job) (filter p asked)) high
ascends_asked p low [] high h = h
ascends_asked p low (a ∷ asked) high h = asked_by (p a) low a (filter p asked) high h.0 (ascends_asked p (suc a.job.number) asked high h.1)

abbrev state : Session → ℕ → List JobOf → List JobOf → List ℕ → ℕ → State
state session workers pending waiting out next = record { session = session; workers = workers; jobs = record { pending = pending; waiting = waiting; out = out; next = next } }

same_state : (session : Session) (workers : ℕ) {p p' q q' : List JobOf} {o o' : List ℕ} {n n' : ℕ} → p ≡ p' → q ≡ q' → o ≡ o' → n ≡ n'
    → state session workers p q o n ≡ state session workers p' q' o' n'
same_state session workers e f g h = cc

same_outputs : (own once : List Out) {d d' jobs jobs' : List Out} → d ≡ d' → jobs ≡ jobs' → d ++ own ++ (once ++ jobs) ≡ d' ++ own ++ (once ++ jobs')
same_outputs own once e f = cc

-- numbers in ascending order
higher : (low : ℕ) (ns : List ℕ) (high high' : ℕ) → high ≤ high' → AreAscending low ns high → AreAscending low ns high'
higher low [] high high' h a = omega arith
higher low (n ∷ ns) high high' h a = (a.0, higher (suc n) ns high high' h a.1)

lower_numbers : (low low' : ℕ) (ns : List ℕ) (high : ℕ) → low' ≤ low → AreAscending low ns high → AreAscending low' ns high
lower_numbers low low' [] high h a = omega arith
lower_numbers low low' (n ∷ ns) high h a = (let first : low ≤ n = a.0 in omega arith, a.1)

by_number : (b : Bool) (low : ℕ) (job : JobOf) (jobs : List JobOf) (high : ℕ) → low ≤ job.number → AreAscending (suc job.number) (map (λ j. j.number) jobs) high
    → AreAscending low (map (λ j. j.number) (cond b (job ∷ jobs) jobs)) high
by_number true low job jobs high h a = (h, a)
by_number false low job jobs high h a = lower_numbers (suc job.number) low _ high (omega arith) a

numbers_kept : (p : JobOf → Bool) (low : ℕ) (jobs : List JobOf) (high : ℕ) → AreAscending low (map (λ j. j.number) jobs) high → AreAscending low (map (λ j. j.number) (filter p jobs)) high
numbers_kept p low [] high a = a
numbers_kept p low (job ∷ jobs) high a = by_number (p job) low job (filter p jobs) high a.0 (numbers_kept p (suc job.number) jobs high a.1)

behind : (p : JobOf → Bool) (low : ℕ) (front : List ℕ) (jobs : List JobOf) (high : ℕ) → AreAscending low (front ++ map (λ j. j.number) jobs) high → AreAscending low (front ++ map (λ j. j.number) (filter p jobs)) high
behind p low [] jobs high a = numbers_kept p low jobs high a
behind p low (n ∷ front) jobs high a = (a.0, behind p (suc n) front jobs high a.1)

one_at_end : (low : ℕ) (ns : List ℕ) (high : ℕ) → AreAscending low ns high → AreAscending low (ns ++ high ∷ []) (suc high)
one_at_end low [] high a = (a, omega arith)
one_at_end low (n ∷ ns) high a = (a.0, one_at_end (suc n) ns high a.1)

new_at_end : (alone : Bool) (t : Option Task) (low : ℕ) (ns : List ℕ) (high : ℕ) → AreAscending low ns high → AreAscending low (ns ++ map (λ j. j.number) (cond alone [] (job_for high t))) (high + length (cond alone [] (job_for high t)))
new_at_end true t low ns high a = rw (append-nil, add-zero) a
new_at_end false None low ns high a = rw (append-nil, add-zero) a
new_at_end false (Some t) low ns high a = let e : suc high ≡ high + 1 = omega arith in subst (λ (n : ℕ). AreAscending low (ns ++ high ∷ []) n) e (one_at_end low ns high a)

front_ascends : (low : ℕ) (ns ms : List ℕ) (high : ℕ) → AreAscending low (ns ++ ms) high → AreAscending low ns high
front_ascends low [] [] high a = a
front_ascends low [] (m ∷ ms) high a = let first : low ≤ m = a.0 in let rest = front_ascends (suc m) [] ms high a.1 in omega arith
front_ascends low (n ∷ ns) ms high a = (a.0, front_ascends (suc n) ns ms high a.1)

take_nothing : {X : Type 0} (xs : List X) → take zero xs ≡ []
take_nothing [] = refl
take_nothing (x ∷ xs) = refl

nothing_next : (n : ℕ) (waiting : List JobOf) → (waiting ≡ []) ⊎ (n ≡ 0) → take n waiting ≡ []
nothing_next n waiting h = elim h as (λ x. take n waiting ≡ []) [ inl none ↦ ap (take n) none ∙ take-nil n | inr full ↦ ap (λ (m : ℕ). take m waiting) full ∙ take_nothing waiting ]

quiet : (alone : Bool) (n : ℕ) (waiting : List JobOf) → (waiting ≡ []) ⊎ (n ≡ 0) → cond alone [] [] ++ map out.Job (take n (waiting ++ cond alone [] [])) ≡ []
quiet true n waiting h = ap (λ (l : List JobOf). map out.Job (take n l)) (append-nil waiting) ∙ ap (map out.Job) (nothing_next n waiting h)
quiet false n waiting h = ap (λ (l : List JobOf). map out.Job (take n l)) (append-nil waiting) ∙ ap (map out.Job) (nothing_next n waiting h)

idle_step : (s : State) (document : Option SessionDocument) (a : Answer) → (s.jobs.waiting ≡ []) ⊎ (room_for s.jobs.out ≡ 0) → writes_effect s effect.Nothing document a ≡ []
idle_step s document a h =
    let none : filter (λ (job : JobOf). false) s.jobs.pending ≡ [] = filter_none s.jobs.pending in
    let all_wait : filter (λ (job : JobOf). true) s.jobs.waiting ≡ s.jobs.waiting = filter_all _ s.jobs.waiting (every _ (λ job. refl) s.jobs.waiting) in
    let all_out : filter (λ (n : ℕ). true) s.jobs.out ≡ s.jobs.out = filter_all _ s.jobs.out (every _ (λ n. refl) s.jobs.out) in
    rw (none, all_wait, all_out) (quiet (s.workers == 0) (room_for s.jobs.out) s.jobs.waiting h)

still_bounded : (e : Effect) (out : List ℕ) → length out ≤ out_max → length (still_out e out) ≤ out_max
still_bounded e out h = omega (arith, filter_shorter (λ number. not (finishes number e)) out)

handed_bounded : (t : Table) → length t.out ≤ out_max → length (handed_on t).out ≤ out_max
handed_bounded t h = omega (arith, length-append t.out (map (λ job. job.number) (next_jobs t)), length-map (next_jobs t) (λ job. job.number), length-take (room_for t.out) t.waiting)

-- a task that is taken in has an id of its own
abbrev OwnIdAmong : List JobOf → Option Task → Type 0
OwnIdAmong pending None = Unit {0}
OwnIdAmong pending (Some t) = AllByRecursion (λ job. Differs job.task t) pending

by_own_id : (b : Bool) (job : JobOf) (jobs : List JobOf) → AllByRecursion (λ other. Differs job.task other.task) jobs → HaveOwnIds jobs → HaveOwnIds (cond b (job ∷ jobs) jobs)
by_own_id true job jobs h k = (h, k)
by_own_id false job jobs h k = k

own_ids_kept : (p : JobOf → Bool) (jobs : List JobOf) → HaveOwnIds jobs → HaveOwnIds (filter p jobs)
own_ids_kept p [] h = tt
own_ids_kept p (job ∷ jobs) h = by_own_id (p job) job (filter p jobs) (kept (λ other. Differs job.task other.task) p jobs h.0) (own_ids_kept p jobs h.1)

differ_kept : (p : JobOf → Bool) (t : Option Task) (jobs : List JobOf) → OwnIdAmong jobs t → OwnIdAmong (filter p jobs) t
differ_kept p None jobs h = tt
differ_kept p (Some t) jobs h = kept (λ job. Differs job.task t) p jobs h

own_id_last : (jobs : List JobOf) (new : JobOf) → HaveOwnIds jobs → AllByRecursion (λ job. Differs job.task new.task) jobs → HaveOwnIds (jobs ++ new ∷ [])
own_id_last [] new h k = (tt, tt)
own_id_last (job ∷ jobs) new h k = (both (λ other. Differs job.task other.task) jobs (new ∷ []) h.0 (k.0, tt), own_id_last jobs new h.1 k.1)

own_ids_on : (jobs : List JobOf) (alone : Bool) (number : ℕ) (t : Option Task) → HaveOwnIds jobs → OwnIdAmong jobs t → HaveOwnIds (jobs ++ cond alone [] (job_for number t))
own_ids_on jobs true number t h k = rw append-nil h
own_ids_on jobs false number None h k = rw append-nil h
own_ids_on jobs false number (Some t) h k = own_id_last jobs (record { number = number; task = t }) h k

no_id : (encoding : PositionEncoding) (pending : List JobOf) → AllByRecursion (λ job. Differs job.task (task.Check encoding)) pending
no_id encoding [] = tt
no_id encoding (job ∷ pending) = (nothing job.task, no_id encoding pending)
  where
    nothing : (t : Task) → Differs t (task.Check encoding)
    nothing (task.Check other) = tt
    nothing (task.Ask other id q) = refl

or_parts : (a b : Bool) → (a || b) ≡ false → (a ≡ false) × (b ≡ false)
or_parts true b h = absurd (cc)
or_parts false b h = (refl, h)

other_way : (a b : Id) → same_id a b ≡ false → same_id b a ≡ false
other_way (ids.Number a) (ids.Number b) h = int_eq_equiv.symm b a ∙ h
other_way (ids.Text a) (ids.Text b) h = nat_list_eq_equiv.symm b a ∙ h
other_way (ids.Number a) (ids.Text b) h = refl
other_way (ids.Text a) (ids.Number b) h = refl

module _ (encoding : PositionEncoding) where
  other_id : (id : Id) (q : Question) (of : Task) → is_of id of ≡ false → Differs of (task.Ask encoding id q)
  other_id id q (task.Check its) h = tt
  other_id id q (task.Ask its other r) h = other_way other id h

  own_id : (id : Id) (q : Question) (pending : List JobOf) → list_any (λ job. is_of id job.task) pending ≡ false → AllByRecursion (λ job. Differs job.task (task.Ask encoding id q)) pending
  own_id id q [] h = tt
  own_id id q (job ∷ pending) h =
      let parts = or_parts (is_of id job.task) (list_any (λ job. is_of id job.task) pending) h in
      (other_id id q job.task parts.0, own_id id q pending parts.1)

  if_accepted : (id : Id) (asked : Option Question) (is_pending : Bool) (pending : List JobOf) (r : Option Denial)
      → (is_pending ≡ false → (q : Question) → AllByRecursion (λ job. Differs job.task (task.Ask encoding id q)) pending)
      → OwnIdAmong pending (accepted encoding id asked (cond is_pending (Some (denial.Error error.InvalidRequest)) r))
  if_accepted id None b pending r h = tt
  if_accepted id (Some q) true pending r h = tt
  if_accepted id (Some q) false pending None h = h refl q
  if_accepted id (Some q) false pending (Some why) h = tt

  if_checked : (b : Bool) (pending : List JobOf) → OwnIdAmong pending (cond b (Some (task.Check encoding)) None)
  if_checked true pending = no_id encoding pending
  if_checked false pending = tt

taken_differs : (s : Session) (pending : List JobOf) (e : Effect) → OwnIdAmong pending (taken s (denied_by s pending e) e)
taken_differs s pending (effect.Asks id asked) =
    if_accepted s.position_encoding id asked (list_any (λ job. is_of id job.task) pending) pending (denial_of_ask s pending asked) (λ h q. own_id s.position_encoding id q pending h)
taken_differs s pending (effect.Changes c) = if_checked s.position_encoding s.diagnostics pending
taken_differs s pending effect.Nothing = tt
taken_differs s pending (effect.LoadsBehind load) = tt
taken_differs s pending (effect.Begins id d) = tt
taken_differs s pending (effect.Refuses id w) = tt
taken_differs s pending (effect.Cancels id) = tt
taken_differs s pending (effect.ShutsDown id) = tt
taken_differs s pending (effect.Finishes done) = tt
taken_differs s pending (effect.Stops status) = tt

same_number : (n number : ℕ) (other : Bool) → ((n == number) && other) ≡ true → number ≡ n
same_number n number other h = grind (arith, nat_tests)

handed_full : (t : Table) → ((handed_on t).waiting ≡ []) ⊎ (room_for (handed_on t).out ≡ 0)
handed_full t = elim (cases_lt (room_for t.out) (length t.waiting)) as (λ x. ((handed_on t).waiting ≡ []) ⊎ (room_for (handed_on t).out ≡ 0)) [
  | inl more ↦ inr (omega (arith, length-append t.out (map (λ job. job.number) (next_jobs t)), length-map (next_jobs t) (λ job. job.number), length-take (room_for t.out) t.waiting))
  | inr few ↦ inl (drop_all (room_for t.out) t.waiting few)
]

module _ (workers : ℕ) (events : List Turn) where
  abbrev asked : ℕ → List Asked
  asked j = asked_before workers events j

  abbrev handed : ℕ → List Handed
  handed j = handed_before workers events j

  abbrev new_at : ℕ → List Asked
  new_at j = brings (workers == 0) j (length (asked j) + 1) (taken_at events j (asked j))

  abbrev new_jobs_at : ℕ → List JobOf
  new_jobs_at j = cond (workers == 0) [] (job_for (length (asked j) + 1) (taken_at events j (asked j)))

  asked_earlier : (j : ℕ) → AllByRecursion (λ a. a.place < j) (asked j)
  asked_earlier zero = tt
  asked_earlier (suc j) =
      both _ (asked j) (new_at j) (weaker _ _ (λ a h. let before : a.place < j = h in omega arith) (asked j) (asked_earlier j))
      (weaker _ _ (λ a h. let here : a.place ≡ j = h in omega arith) (new_at j) (brings_here (workers == 0) j _ _))

  handed_earlier : (j : ℕ) → AllByRecursion (λ h. h.place < j) (handed j)
  handed_earlier zero = tt
  handed_earlier (suc j) =
      both _ (handed j) (handed_in j (handed_at workers events j (handed j))) (weaker _ _ (λ a h. let before : a.place < j = h in omega arith) (handed j) (handed_earlier j))
      (weaker _ _ (λ a h. let here : a.place ≡ j = h in omega arith) (handed_in j (handed_at workers events j (handed j))) (handed_here j _))

  numbers_ascend : (j : ℕ) → Ascends 1 (map (λ a. a.job) (asked j)) (length (asked j) + 1)
  numbers_ascend zero = omega arith
  numbers_ascend (suc j) = ascends_brought (asked j) (workers == 0) j (taken_at events j (asked j)) (numbers_ascend j)

  pending_ascend : (j : ℕ) → Ascends 1 (pending_at workers events j) (length (asked j) + 1)
  pending_ascend j = ascends_asked (is_pending events j) 1 (asked j) (length (asked j) + 1) (numbers_ascend j)

  more_asked : (j : ℕ) → length (asked j) + 1 ≤ length (asked (suc j)) + 1
  more_asked j = omega (arith, length-append (asked j) (new_at j))

  handed_below : (j : ℕ) → AllByRecursion (λ h. h.number < length (asked j) + 1) (handed j)
  handed_below zero = tt
  handed_below (suc j) =
      let jobs = handed_at workers events j (handed j) in
      both _ (handed j) (handed_in j jobs) (weaker _ _ (λ a h. let before : a.number < length (asked j) + 1 = h in omega (arith, more_asked j)) (handed j) (handed_below j))
      (all_handed (λ n. n < length (asked (suc j)) + 1) j jobs (all_front _ (out_max - length (filter (is_out events (suc j)) (handed j))) _
      (ascends_below 1 _ _ (ascends_kept (is_waiting (handed j)) 1 _ _ (pending_ascend (suc j))))))

  -- what is pending after the event at place j
  pending_step : (j : ℕ) → pending_at workers events (suc j) ≡ left (docs_at events j) (effect_at events j) (pending_at workers events j) ++ new_jobs_at j
  pending_step j =
      ap (map (λ a. a.job)) (further (λ a. a.place) (λ a k. may_decide events a k) j (asked j) (new_at j) (asked_earlier j) (brings_here (workers == 0) j _ _))
      ∙ (map-append (λ a. a.job) _ (new_at j)
      ∙ (ap (λ jobs. jobs ++ map (λ a. a.job) (new_at j)) (map_filter (λ a. a.job) (λ job. not (decides (docs_at events j) (effect_at events j) job)) (filter (is_pending events j) (asked j)))
      ∙ ap (λ jobs. left (docs_at events j) (effect_at events j) (pending_at workers events j) ++ jobs) (jobs_brought (workers == 0) j _ _)))

  abbrev waits : ℕ → List JobOf → List JobOf
  waits j jobs = filter (is_waiting (handed j)) jobs

  abbrev jobs_now : ℕ → Table
  jobs_now j = jobs_then workers (session_at events j) (jobs_at workers events j) (effect_at events j) (taken_at events j (asked j))

  -- the queue when it has come
  queue_step : (j : ℕ) → (jobs_now j).waiting ≡ waiting_at workers events j (handed j)
  queue_step j =
      let e = effect_at events j in
      let pending = pending_at workers events j in
      ap (λ jobs. jobs ++ new_jobs_at j) (filter_swap (λ job. not (decides (docs_at events j) e job)) (is_waiting (handed j)) pending)
      ∙ (ap (λ jobs. waits j (left (docs_at events j) e pending) ++ jobs) (sym (new_wait (handed j) (new_jobs_at j) (length (asked j) + 1) (handed_below j) (numbers_brought (workers == 0) _ _)))
      ∙ (sym (filter-append (is_waiting (handed j)) (left (docs_at events j) e pending) (new_jobs_at j))
      ∙ ap (waits j) (sym (pending_step j))))

  -- the jobs that are then out
  out_step : (j : ℕ) → still_out (effect_at events j) (jobs_at workers events j).out ≡ map (λ h. h.number) (filter (is_out events (suc j)) (handed j))
  out_step j =
      sym (map_filter (λ h. h.number) (λ number. not (finishes number (effect_at events j))) (filter (is_out events j) (handed j)))
      ∙ ap (map (λ h. h.number)) (sym (further_old (λ h. h.place) (λ h k. finishes h.number (effect_at events k)) j (handed j) (handed_earlier j)))

  abbrev room : ℕ → ℕ
  room j = out_max - length (filter (is_out events (suc j)) (handed j))

  room_step : (j : ℕ) → room_for (still_out (effect_at events j) (jobs_at workers events j).out) ≡ room j
  room_step j = ap (λ n. out_max - n) (ap length (out_step j) ∙ length-map (filter (is_out events (suc j)) (handed j)) (λ h. h.number))

  abbrev queue : ℕ → List JobOf
  queue j = waiting_at workers events j (handed j)

  -- what waits then
  waiting_step : (j : ℕ) → drop (room j) (queue j) ≡ (jobs_at workers events (suc j)).waiting
  waiting_step j =
      sym (waiting_more (handed j) (handed_in j (take (room j) (queue j))) (pending_at workers events (suc j))
      ∙ rest_waits j 1 (queue j) _ (room j) (ascends_kept (is_waiting (handed j)) 1 _ _ (pending_ascend (suc j))))

  handed_step : (j : ℕ) → map (λ h. h.number) (filter (is_out events (suc j)) (handed j)) ++ map (λ job. job.number) (take (room j) (queue j)) ≡ (jobs_at workers events (suc j)).out
  handed_step j =
      let jobs = take (room j) (queue j) in
      let old = filter (is_out events (suc j)) (handed j) in
      ap (λ ns. map (λ h. h.number) old ++ ns) (sym (handed_numbers j jobs))
      ∙ (sym (map-append (λ h. h.number) old (handed_in j jobs))
      ∙ ap (map (λ h. h.number)) (ap (λ hs. old ++ hs) (sym (further_new (λ h. h.place) (λ h k. finishes h.number (effect_at events k)) j (handed_in j jobs) (handed_here j jobs)))
      ∙ sym (filter-append (is_out events (suc j)) (handed j) (handed_in j jobs))))

  next_step : (j : ℕ) → length (asked j) + 1 + length (new_jobs_at j) ≡ length (asked (suc j)) + 1
  next_step j =
      let many : length (new_jobs_at j) ≡ length (new_at j) = ap length (sym (jobs_brought (workers == 0) j _ _)) ∙ length-map (new_at j) (λ a. a.job) in
      omega (arith, many, length-append (asked j) (new_at j))

  -- the machine's step leads to the state that one more event tells
  pub state_step : (j : ℕ) → after (state_at workers events j) (turn_at events j) ≡ state_at workers events (suc j)
  state_step j =
      let s = state_at workers events j in
      let e = effect_at events j in
      same_state (session_at events (suc j)) workers
      (sym (pending_step j))
      (ap (λ n. drop n (jobs_now j).waiting) (room_step j) ∙ (ap (drop (room j)) (queue_step j) ∙ waiting_step j))
      (ap (λ n. still_out e s.jobs.out ++ map (λ job. job.number) (take n (jobs_now j).waiting)) (room_step j)
      ∙ (ap (λ jobs. still_out e s.jobs.out ++ map (λ job. job.number) (take (room j) jobs)) (queue_step j)
      ∙ (ap (λ ns. ns ++ map (λ job. job.number) (take (room j) (queue j))) (out_step j) ∙ handed_step j)))
      (next_step j)

  decided_step : (j : ℕ) → flat_map (verdict (effect_at events j)) (filter (decides (docs_at events j) (effect_at events j)) (pending_at workers events j)) ≡ decided_at workers events j
  decided_step j =
      let e = effect_at events j in
      let d = docs_at events j in
      ap (flat_map (verdict e)) (sym (map_filter (λ a. a.job) (decides d e) (filter (is_pending events j) (asked j))))
      ∙ (flat_map-map (verdict e) (λ a. a.job) (filter (λ a. decides d e a.job) (filter (is_pending events j) (asked j)))
      ∙ ap (flat_map (λ a. verdict e a.job)) (sym (filter_both (λ a. decides d e a.job) (is_pending events j) (asked j))))

  -- and puts out what it tells
  pub outputs_step : (j : ℕ) → writes (state_at workers events j) (turn_at events j) ≡ outputs_at workers events j
  outputs_step j =
      let s = state_at workers events j in
      let e = effect_at events j in
      same_outputs (own workers (session_at events j) (denied_at events j (asked j)) e (changed_at events j)) (at_once workers events j)
      (decided_step j)
      (ap (λ n. map out.Job (take n (jobs_now j).waiting)) (room_step j) ∙ ap (λ jobs. map out.Job (take (room j) jobs)) (queue_step j))

  short_of : (i : ℕ) (turn : Turn) (rest : List Turn) → drop i events ≡ turn ∷ rest → i < length events
  short_of i turn rest h = let e : length (drop i events) ≡ suc (length rest) = ap length h in omega (arith, length-drop i events)

  -- the next turn, and those behind it
  record Next (j : ℕ) (turn : Turn) (rest : List Turn) : Type 0 where
    pub is : turn_at events j ≡ turn
    pub rest_is : drop (suc j) events ≡ rest
    pub leads : after (state_at workers events j) turn ≡ state_at workers events (suc j)

  next_turn : (j : ℕ) (turn : Turn) (rest : List Turn) → drop j events ≡ turn ∷ rest → Next j turn rest
  next_turn j turn rest h =
      let here = drop-cons events j idle (short_of j turn rest h) in
      let same : turn_at events j ≡ turn = cc in
      record { is = same; rest_is = cc; leads = ap (λ (t : Turn). after (state_at workers events j) t) (sym same) ∙ state_step j }

  -- turns from a place on put out what the list of events tells from there
  pub run_from : (rest : List Turn) (j : ℕ) → drop j events ≡ rest → run (state_at workers events j) rest ≡ outputs_from workers events j (length rest)
  run_from [] j h = refl
  run_from (turn ∷ rest) j h =
      let n = next_turn j turn rest h in
      ap (λ (t : Turn). writes (state_at workers events j) t ++ run (after (state_at workers events j) turn) rest) (sym n.is)
      ∙ (ap (λ (outs : List Out). outs ++ run (after (state_at workers events j) turn) rest) (outputs_step j)
      ∙ (ap (λ (s : State). outputs_at workers events j ++ run s rest) n.leads ∙ ap (λ (outs : List Out). outputs_at workers events j ++ outs) (run_from rest (suc j) n.rest_is)))

  -- and lead to the state that it tells
  pub reached_from : (front rest : List Turn) (j : ℕ) → drop j events ≡ front ++ rest → reached (state_at workers events j) front ≡ state_at workers events (j + length front)
  reached_from [] rest j h = ap (state_at workers events) (sym (add-zero j))
  reached_from (turn ∷ front) rest j h =
      let n = next_turn j turn (front ++ rest) h in
      ap (λ (s : State). reached s front) n.leads
      ∙ (reached_from front rest (suc j) n.rest_is ∙ ap (state_at workers events) (let moved : suc j + length front ≡ j + suc (length front) = omega arith in moved))

  -- a whole run puts out what the list of events tells
  pub run_tells : run (start workers) events ≡ outputs workers events
  run_tells = run_from events 0 refl

  -- the numbers handed on, then those of the jobs that wait, ascend
  abbrev all_numbers : ℕ → List ℕ
  all_numbers j = map (λ h. h.number) (handed j) ++ map (λ job. job.number) (jobs_at workers events j).waiting

  numbers_step : (j : ℕ) → all_numbers (suc j) ≡ map (λ h. h.number) (handed j) ++ map (λ job. job.number) (jobs_now j).waiting
  numbers_step j =
      let jobs = take (room j) (queue j) in
      let old = map (λ h. h.number) (handed j) in
      ap (λ ns. ns ++ map (λ job. job.number) (jobs_at workers events (suc j)).waiting) (map-append (λ h. h.number) (handed j) (handed_in j jobs) ∙ ap (λ ns. old ++ ns) (handed_numbers j jobs))
      ∙ (ap (λ ws. old ++ map (λ job. job.number) jobs ++ map (λ job. job.number) ws) (sym (waiting_step j))
      ∙ (append_assoc old (map (λ job. job.number) jobs) (map (λ job. job.number) (drop (room j) (queue j)))
      ∙ (ap (λ ns. old ++ ns) (sym (map-append (λ job. job.number) jobs (drop (room j) (queue j))))
      ∙ (ap (λ q. old ++ map (λ job. job.number) q) (take-append-drop (room j) (queue j))
      ∙ ap (λ q. old ++ map (λ job. job.number) q) (sym (queue_step j))))))

  all_ascend : (j : ℕ) → AreAscending 1 (all_numbers j) (length (asked j) + 1)
  all_ascend zero = omega arith
  all_ascend (suc j) =
      let old = map (λ h. h.number) (handed j) in
      let waiting = (jobs_at workers events j).waiting in
      let left_ones = left (docs_at events j) (effect_at events j) waiting in
      let before = behind (λ job. not (decides (docs_at events j) (effect_at events j) job)) 1 old waiting _ (all_ascend j) in
      let now = new_at_end (workers == 0) (taken_at events j (asked j)) 1 (old ++ map (λ job. job.number) left_ones) (length (asked j) + 1) before in
      let joined : old ++ map (λ job. job.number) left_ones ++ map (λ job. job.number) (new_jobs_at j) ≡ all_numbers (suc j) =
      append_assoc old (map (λ job. job.number) left_ones) (map (λ job. job.number) (new_jobs_at j))
      ∙ (ap (λ ns. old ++ ns) (sym (map-append (λ job. job.number) left_ones (new_jobs_at j))) ∙ sym (numbers_step j)) in
      subst (λ (ns : List ℕ). AreAscending 1 ns (length (asked (suc j)) + 1)) joined
      (subst (λ (n : ℕ). AreAscending 1 (old ++ map (λ job. job.number) left_ones ++ map (λ job. job.number) (new_jobs_at j)) n) (next_step j) now)

  pub handed_ascend : (j : ℕ) → (high : ℕ) × AreAscending 1 (map (λ h. h.number) (handed j)) high
  handed_ascend j = (length (asked j) + 1, front_ascends 1 _ (map (λ job. job.number) (jobs_at workers events j).waiting) _ (all_ascend j))

  -- each turn of a run is answered
  pub answered_from : (rest : List Turn) (j : ℕ) → drop j events ≡ rest → FitsRun (state_at workers events j) rest → (k : ℕ) → j ≤ k → k < length events → IsAnswered workers events k
  answered_from [] j h f k later within = let e : length (drop j events) ≡ 0 = ap length h in absurd (omega (arith, length-drop j events))
  answered_from (turn ∷ rest) j h f k later within =
      let n = next_turn j turn rest h in
      elim (cases_lt j k) as (λ x. IsAnswered workers events k) [
        | inl further ↦ answered_from rest (suc j) n.rest_is (subst (λ (s : State). FitsRun s rest) n.leads f.1) k (omega arith) within
        | inr now ↦
            let same : j ≡ k = omega arith in
            subst (λ (n : ℕ). IsAnswered workers events n) same
            (λ alone. subst (λ (t : Turn). FitsTurn (state_at workers events j) t) (sym n.is) f.0 alone)
      ]

  -- and turns whose answers are right are those of a run
  pub fits_from : (rest : List Turn) (j : ℕ) → drop j events ≡ rest → ((k : ℕ) → k < length events → IsAnswered workers events k) → FitsRun (state_at workers events j) rest
  fits_from [] j h a = tt
  fits_from (turn ∷ rest) j h a =
      let n = next_turn j turn rest h in (
        subst (λ (t : Turn). FitsTurn (state_at workers events j) t) n.is (a j (short_of j turn rest h)),
        subst (λ (s : State). FitsRun s rest) (sym n.leads) (fits_from rest (suc j) n.rest_is a),
      )

  -- what waits does so because there is no room
  full_or_empty : (j : ℕ) → ((jobs_at workers events j).waiting ≡ []) ⊎ (room_for (jobs_at workers events j).out ≡ 0)
  full_or_empty zero = inl refl
  full_or_empty (suc j) =
      let t = jobs_now j in
      subst (λ (s : State). (s.jobs.waiting ≡ []) ⊎ (room_for s.jobs.out ≡ 0)) (state_step j) (handed_full t)

  pub silent_after_stop : (j : ℕ) → (session_at events j).phase ≡ Stopped → outputs_at workers events j ≡ []
  silent_after_stop j h =
      let s = state_at workers events j in
      let turn = turn_at events j in
      let nothing : effect_at events j ≡ effect.Nothing = ap (λ (p : Phase). effect_of p s.session.documents turn.event) h in
      sym (outputs_step j) ∙ (ap (λ (e : Effect). writes_effect s e (changed_by s.session e turn.text_refused) turn.answer) nothing ∙ idle_step s None turn.answer (full_or_empty j))

  pub one_is_decided : (j : ℕ) (done : DoneOf) → length (filter (decides (docs_at events j) (effect.Finishes done)) (pending_at workers events j)) ≤ 1
  one_is_decided j done =
      at_most_one (decides (docs_at events j) (effect.Finishes done)) done.job (λ job h. same_number done.job job.number _ h) 1 (pending_at workers events j) (length (asked j) + 1) (pending_ascend j)

  jobs_bounded : (j : ℕ) → length (jobs_at workers events j).out ≤ out_max
  jobs_bounded zero = omega arith
  jobs_bounded (suc j) = subst (λ (s : State). length s.jobs.out ≤ out_max) (state_step j) (handed_bounded (jobs_now j) (still_bounded (effect_at events j) (jobs_at workers events j).out (jobs_bounded j)))

  pub out_is_bounded : (j : ℕ) → length (filter (is_out events j) (handed j)) ≤ out_max
  out_is_bounded j = let many = length-map (filter (is_out events j) (handed j)) (λ h. h.number) in let few = jobs_bounded j in omega arith

  pub pending_have_own_ids : (j : ℕ) → HaveOwnIds (pending_at workers events j)
  pending_have_own_ids zero = tt
  pending_have_own_ids (suc j) =
      let pending = pending_at workers events j in
      let d = docs_at events j in
      let e = effect_at events j in
      subst HaveOwnIds (sym (pending_step j))
      (own_ids_on (left d e pending) (workers == 0) (length (asked j) + 1) (taken_at events j (asked j)) (own_ids_kept _ pending (pending_have_own_ids j))
      (differ_kept _ (taken_at events j (asked j)) pending (taken_differs (session_at events j) pending e)))
