-- A desk without workers.
use Rattle.std.proofs.Common.{◌≡◌, ℕ, zero, suc, ◌+◌, ◌-◌, take, map, Bool, true, false, cond, ◌==◌, List, [], ◌∷◌, ◌++◌, length, Option, Some, None, ap, refl, ◌∙◌, arith, add-zero}
use Rattle.std.proofs.lemmas.Bool.Decides.{nat_tests}
use Rattle.std.specs.Prelude.{filter, flat_map}
use Rattle.std.proofs.lemmas.List.{append-nil}
use Rattle.std.proofs.Math.Seq.{take-nil}
use Rattle.gq_project.specs.declared.document.Doc.{Doc}
use Rattle.gq_events.specs.declared.event.Task.{Task}
use Rattle.gq_events.specs.Jobs.{JobOf}
use Rattle.gq_events.specs.declared.event.Answer.TheVariants as answer
use Rattle.gq_events.specs.declared.event.Task.TheVariants as task
use Rattle.gq_events.specs.declared.event.Out.{Out}
use Rattle.gq_events.specs.declared.event.Out.TheVariants as out
use Rattle.gq_events.specs.Rules.{Turn, Session, effect_of, changed_by, session_after, denied_by, taken, own, answer_to, verdict, out_max, FitsTaken}
use Rattle.gq_events.specs.History.{Asked, Handed, session_at, effect_at, changed_at, turn_at, denied_at, taken_at, asked_before, pending_of, is_decided_at, is_out, is_waiting, handed_at, handed_before}
use Rattle.gq_events.specs.Laws.{AnsweredAtOnce, StepsExist}
use Rattle.gq_events.specs.Machine.{State, no_jobs, job_for, after, writes, reached, effect_in, changed_in}

next_by : (b : Bool) (n : ℕ) (t : Option Task) → b ≡ true → n + length (cond b [] (job_for n t)) ≡ n
next_by true n t h = add-zero n
next_by false n t h = absurd (cc)

is_zero : (n : ℕ) → n ≡ 0 → (n == 0) ≡ true
is_zero n h = grind (arith, nat_tests)

-- it makes no jobs, so the next number stays
pub next_stays : (s : State) (turn : Turn) → s.workers ≡ 0 → (after s turn).jobs.next ≡ s.jobs.next
next_stays s turn alone = next_by (s.workers == 0) s.jobs.next _ (is_zero s.workers alone)

pub next_reached : (s : State) (turns : List Turn) → s.workers ≡ 0 → (reached s turns).jobs.next ≡ s.jobs.next
next_reached s [] alone = refl
next_reached s (turn ∷ turns) alone = next_reached (after s turn) turns alone ∙ next_stays s turn alone

-- its state is that of its session
abbrev pub alone : Session → State
alone session = record { session = session; workers = 0; jobs = no_jobs }

pub after_alone : (session : Session) (turn : Turn) → after (alone session) turn ≡ alone (session_after session (effect_in (alone session) turn) (changed_in (alone session) turn))
after_alone session turn = refl

-- an event's own reply, then the answer to the task that it brings
abbrev pub own_then_answer : Session → Turn → List Out
own_then_answer session turn =
    let e = effect_of session.phase session.documents turn.event in
    let denied = denied_by session [] e in
    own 0 session denied e (changed_by session e turn.text_refused) ++ answer_to (taken session denied e) turn.answer

nothing_behind : (a b : List Out) → a ++ (b ++ []) ≡ a ++ b
nothing_behind a b = ap (λ (l : List Out). a ++ l) (append-nil b)

pub writes_alone : (session : Session) (turn : Turn) → writes (alone session) turn ≡ own_then_answer session turn
writes_alone session turn = nothing_behind _ _

-- it has asked for nothing, and handed nothing on
asked_none : (events : List Turn) (j : ℕ) → asked_before 0 events j ≡ []
asked_none events zero = refl
asked_none events (suc j) = append-nil (asked_before 0 events j) ∙ asked_none events j

pub handed_none : (events : List Turn) (j : ℕ) (handed : List Handed) → handed_at 0 events j handed ≡ []
handed_none events j handed =
    ap (λ (asked : List Asked). take (out_max - length (filter (is_out events (suc j)) handed)) (filter (is_waiting handed) (pending_of events (suc j) asked))) (asked_none events (suc j))
    ∙ take-nil (out_max - length (filter (is_out events (suc j)) handed))

abbrev outputs_with : List Turn → ℕ → List Asked → List JobOf → List Out
outputs_with events j asked jobs =
    flat_map (λ a. verdict (effect_at events j) a.job) (filter (is_decided_at events j) asked)
    ++ own 0 (session_at events j) (denied_at events j asked) (effect_at events j) (changed_at events j)
    ++ (answer_to (taken_at events j asked) (turn_at events j).answer ++ map out.Job jobs)

pub answered_at_once : AnsweredAtOnce
answered_at_once events j =
    ap (λ (asked : List Asked). outputs_with events j asked (handed_at 0 events j (handed_before 0 events j))) (asked_none events j)
    ∙ (ap (outputs_with events j []) (handed_none events j (handed_before 0 events j)) ∙ nothing_behind _ _)

-- want of memory is an answer to each task
no_memory_fits : (docs : List Doc) (t : Option Task) → FitsTaken docs t answer.NoMemory
no_memory_fits docs None = tt
no_memory_fits docs (Some (task.Ask encoding id q)) = (∣ tt ∣₁, refl)
no_memory_fits docs (Some (task.Check encoding)) = (∣ tt ∣₁, refl)

pub steps_exist : StepsExist
steps_exist s e = (_, _, record { text_refused = false; answer = answer.NoMemory; fits = λ alone. no_memory_fits _ _; outputs = refl; state = refl })
