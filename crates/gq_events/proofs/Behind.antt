-- Turns that come behind earlier ones.
use Rattle.std.proofs.Common.{◌≡◌, ℕ, ◌+◌, ◌<◌, ◌≤◌, ◌==◌, Bool, true, false, cond, List, [], ◌∷◌, ◌++◌, length, Option, Some, None, ap, sym, refl, ◌∙◌, append_assoc, arith, zero-add}
use Rattle.std.proofs.Math.Seq.{drop-append_seam}
use Rattle.gq_events.specs.declared.event.Task.{Task}
use Rattle.gq_events.specs.declared.event.Out.{Out}
use Rattle.gq_events.specs.Rules.{Turn}
use Rattle.gq_events.specs.History.{outputs, IsAnswered}
use Rattle.gq_events.specs.Machine.{State, start, job_for, taken_by, effect_in, after, writes, run, reached, FitsRun}
use Rattle.gq_events.specs.Laws.{StepsTellHistory, OutputsGoOn}
use Rattle.gq_events.proofs.Steps.{state_at, run_from, run_tells, reached_from, answered_from, fits_from}

-- ---- one run after another

pub run-append : (s : State) (turns more : List Turn) → run s (turns ++ more) ≡ run s turns ++ run (reached s turns) more
run-append s [] more = refl
run-append s (turn ∷ turns) more =
    ap (λ (l : List Out). writes s turn ++ l) (run-append (after s turn) turns more)
    ∙ sym (append_assoc (writes s turn) (run (after s turn) turns) (run (reached (after s turn) turns) more))

pub reached-append : (s : State) (turns more : List Turn) → reached s (turns ++ more) ≡ reached (reached s turns) more
reached-append s [] more = refl
reached-append s (turn ∷ turns) more = reached-append (after s turn) turns more

pub FitsRun-append : (s : State) (turns more : List Turn) → FitsRun s turns → FitsRun (reached s turns) more → FitsRun s (turns ++ more)
FitsRun-append s [] more f g = g
FitsRun-append s (turn ∷ turns) more f g = (f.0, FitsRun-append (after s turn) turns more f.1 g)

-- ---- as the list of events tells it

reached_here : (workers : ℕ) (earlier turns : List Turn) → reached (start workers) earlier ≡ state_at workers (earlier ++ turns) (length earlier)
reached_here workers earlier turns = reached_from workers (earlier ++ turns) earlier turns 0 refl ∙ ap (state_at workers (earlier ++ turns)) (zero-add (length earlier))

pub steps_tell_history : StepsTellHistory
steps_tell_history workers earlier turns =
    ap (λ (s : State). run s turns) (reached_here workers earlier turns) ∙ run_from workers (earlier ++ turns) turns (length earlier) (drop-append_seam earlier turns)

pub outputs_go_on : OutputsGoOn
outputs_go_on workers earlier turns =
    sym (run_tells workers (earlier ++ turns))
    ∙ (run-append (start workers) earlier turns
    ∙ (ap (λ (l : List Out). l ++ run (reached (start workers) earlier) turns) (run_tells workers earlier)
    ∙ ap (λ (l : List Out). outputs workers earlier ++ l) (steps_tell_history workers earlier turns)))

-- a run whose answers fit, and one all of whose turns are answered
pub answered_all : (workers : ℕ) (turns : List Turn) → FitsRun (start workers) turns → (j : ℕ) → j < length turns → IsAnswered workers turns j
answered_all workers turns f j within = answered_from workers turns turns 0 refl f j (omega arith) within

pub fits_all : (workers : ℕ) (turns : List Turn) → ((j : ℕ) → j < length turns → IsAnswered workers turns j) → FitsRun (start workers) turns
fits_all workers turns a = fits_from workers turns turns 0 refl a

-- ---- the number of the next job

few_jobs : (alone : Bool) (number : ℕ) (t : Option Task) → length (cond alone [] (job_for number t)) ≤ 1
few_jobs true number t = omega arith
few_jobs false number None = omega arith
few_jobs false number (Some t) = omega arith

-- a step uses up one number at most
pub next_on : (s : State) (turn : Turn) → (after s turn).jobs.next ≤ s.jobs.next + 1
next_on s turn = let few = few_jobs (s.workers == 0) s.jobs.next (taken_by s.session s.jobs (effect_in s turn)) in omega arith

pub next_reached : (s : State) (turns : List Turn) → (reached s turns).jobs.next ≤ s.jobs.next + length turns
next_reached s [] = omega arith
next_reached s (turn ∷ turns) =
    let one = next_on s turn in
    let more = next_reached (after s turn) turns in
    omega arith
