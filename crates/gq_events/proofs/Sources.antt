-- Where each output of a step comes from: what holds of the outputs of each source holds of all.
use Rattle.std.proofs.Common.{◌≤◌, ◌≡◌, ℕ, zero, suc, ◌+◌, ◌<◌, Bool, true, false, cond, ◌==◌, List, [], ◌∷◌, ◌++◌, length, map, Option, Some, None, ap, sym, refl, ◌∙◌, arith}
use Rattle.std.specs.Prelude.{filter, flat_map, codes}
use Rattle.std.specs.List.{AllByRecursion}
use Rattle.std.proofs.lemmas.Bool.Decides.{nat_tests}
use Rattle.gq_text.specs.declared.place.PositionEncoding.{PositionEncoding}
use Rattle.gq_rpc.specs.declared.messages.Id.{Id}
use Rattle.gq_rpc.specs.declared.messages.Question.{Question}
use Rattle.gq_events.specs.declared.refusals.Denial.{Denial}
use Rattle.gq_rpc.specs.declared.messages.ResponseError.TheVariants as error
use Rattle.gq_events.specs.declared.event.Task.{Task}
use Rattle.gq_events.specs.declared.event.Task.TheVariants as task
use Rattle.gq_events.specs.Jobs.{JobOf, DoneOf}
use Rattle.gq_events.specs.declared.documents.SessionDocument.{SessionDocument}
use Rattle.gq_events.specs.declared.event.Answer.{Answer}
use Rattle.gq_events.specs.declared.event.Out.{Out}
use Rattle.gq_events.specs.declared.event.Out.TheVariants as out
use Rattle.gq_events.specs.declared.effect.Change.{Change}
use Rattle.gq_events.specs.declared.effect.Effect.{Effect}
use Rattle.gq_events.specs.declared.effect.Effect.TheVariants as effect
use Rattle.gq_events.specs.Documents.{docs_of}
use Rattle.gq_events.specs.Tasks.{Answers}
use Rattle.gq_events.specs.Rules.{Turn, Session, session_after, failed, refused_as, answered, verdict, accepted, taken, own, FitsTaken, answer_to}
use Rattle.gq_events.specs.History.{session_at, effect_at, changed_at, docs_at, encoding_at, turn_at, Asked, is_decided_at, asked_before, denied_at, taken_at, numbered, handed_at, handed_before, decided_at, at_once, outputs_at, IsAnswered}
use Rattle.gq_events.proofs.Lists.{both, weaker}
use Rattle.gq_events.proofs.Firsts.{decided_at_first, documents_stay, answers_are_defined}

-- the event of this effect brings the task, in a session with this encoding: a client's question, or after a change the check
abbrev pub IsBroughtBy : PositionEncoding → Effect → Task → Type 0
IsBroughtBy encoding (effect.Asks id asked) t = (q : Question) × ((asked ≡ Some q) × (t ≡ task.Ask encoding id q))
IsBroughtBy encoding (effect.Changes c) t = t ≡ task.Check encoding
IsBroughtBy encoding effect.Nothing t = ⊥
IsBroughtBy encoding (effect.LoadsBehind load) t = ⊥
IsBroughtBy encoding (effect.Begins id capabilities) t = ⊥
IsBroughtBy encoding (effect.Refuses id why) t = ⊥
IsBroughtBy encoding (effect.Cancels id) t = ⊥
IsBroughtBy encoding (effect.ShutsDown id) t = ⊥
IsBroughtBy encoding (effect.Finishes done) t = ⊥
IsBroughtBy encoding (effect.Stops status) t = ⊥

abbrev IsTakenBy : PositionEncoding → Effect → Option Task → Type 0
IsTakenBy encoding e None = Unit {0}
IsTakenBy encoding e (Some t) = IsBroughtBy encoding e t

check_if : (encoding : PositionEncoding) (b : Bool) (c : Change) → IsTakenBy encoding (effect.Changes c) (cond b (Some (task.Check encoding)) None)
check_if encoding true c = refl
check_if encoding false c = tt

ask_if : (encoding : PositionEncoding) (id : Id) (asked : Option Question) (denied : Option Denial) → IsTakenBy encoding (effect.Asks id asked) (accepted encoding id asked denied)
ask_if encoding id None denied = tt
ask_if encoding id (Some q) None = (q, (refl, refl))
ask_if encoding id (Some q) (Some why) = tt

taken_by : (s : Session) (denied : Option Denial) (e : Effect) → IsTakenBy s.position_encoding e (taken s denied e)
taken_by s denied (effect.Asks id asked) = ask_if s.position_encoding id asked denied
taken_by s denied (effect.Changes c) = check_if s.position_encoding s.diagnostics c
taken_by s denied effect.Nothing = tt
taken_by s denied (effect.LoadsBehind load) = tt
taken_by s denied (effect.Begins id capabilities) = tt
taken_by s denied (effect.Refuses id why) = tt
taken_by s denied (effect.Cancels id) = tt
taken_by s denied (effect.ShutsDown id) = tt
taken_by s denied (effect.Finishes done) = tt
taken_by s denied (effect.Stops status) = tt

-- an answer to a task that an event at place i brought, about the documents after it, which are those of now
pub record IsGiven (events : List Turn) (j : ℕ) (t : Task) (a : Answer) : Type 0 where
  pub place : ℕ
  pub earlier : place ≤ j
  pub brought : IsBroughtBy (encoding_at events place) (effect_at events place) t
  pub still : docs_at events (suc place) ≡ docs_at events (suc j)
  pub fits : Answers (docs_at events (suc place)) t a

-- what a worker made of a job leaves the documents as they are
after_finish : (s : Session) (e : Effect) (document : Option SessionDocument) (done : DoneOf) → e ≡ effect.Finishes done → docs_of (session_after s e document).documents ≡ docs_of s.documents
after_finish s e document done is = ap (λ (x : Effect). docs_of (session_after s x document).documents) is

module _ (workers : ℕ) (events : List Turn) (j : ℕ) (P : Out → Type 0)
    (of_own : AllByRecursion P (own workers (session_at events j) (denied_at events j (asked_before workers events j)) (effect_at events j) (changed_at events j)))
    (of_change : (c : Change) → effect_at events j ≡ effect.Changes c → (t : Task) → AllByRecursion P (refused_as t error.ContentModified))
    (of_shutdown : (t : Task) → AllByRecursion P (refused_as t (failed (codes "shutdown"))))
    (of_cancel : (t : Task) → AllByRecursion P (refused_as t error.Cancelled))
    (of_answer : (t : Task) (a : Answer) → IsGiven events j t a → AllByRecursion P (answered t a))
    (of_job : (job : JobOf) → P (out.Job job)) where
  abbrev All_hold : List Out → Type 0
  All_hold outs = AllByRecursion P outs

  abbrev Comes : ℕ → Asked → Type 0
  Comes k a = (a.place < k) × IsBroughtBy (encoding_at events a.place) (effect_at events a.place) a.job.task

  brought : (alone : Bool) (k number : ℕ) (t : Option Task) → IsTakenBy (encoding_at events k) (effect_at events k) t → AllByRecursion (Comes (suc k)) (cond alone [] (numbered k number t))
  brought true k number t h = tt
  brought false k number None h = tt
  brought false k number (Some t) h = ((omega arith, h), tt)

  all_come : (k : ℕ) → AllByRecursion (Comes k) (asked_before workers events k)
  all_come zero = tt
  all_come (suc k) =
      let asked = asked_before workers events k in
      both (Comes (suc k)) asked (cond (workers == 0) [] (numbered k (length asked + 1) (taken_at events k asked)))
      (weaker (Comes k) (Comes (suc k)) (λ a h. (let before : a.place < k = h.0 in omega arith, h.1)) asked (all_come k))
      (brought (workers == 0) k (length asked + 1) (taken_at events k asked) (taken_by (session_at events k) _ (effect_at events k)))

  of_verdict : (a : Asked) (e : Effect) → effect_at events j ≡ e → Comes j a → is_decided_at events j a ≡ true → All_hold (verdict e a.job)
  of_verdict a (effect.Changes c) is come decided = of_change c is a.job.task
  of_verdict a (effect.ShutsDown id) is come decided = of_shutdown a.job.task
  of_verdict a (effect.Cancels id) is come decided = of_cancel a.job.task
  of_verdict a (effect.Finishes done) is come decided =
      let first = (decided_at_first events a j come.0).0 decided in
      of_answer a.job.task done.answer (record {
        place = a.place;
        earlier = let before : a.place < j = come.0 in omega arith;
        brought = come.1;
        still = sym (documents_stay events a j first.later first.none_before) ∙ sym (after_finish (session_at events j) (effect_at events j) (changed_at events j) done is);
        fits = answers_are_defined events a j done first is;
      })
  of_verdict a effect.Nothing is come decided = tt
  of_verdict a (effect.LoadsBehind load) is come decided = tt
  of_verdict a (effect.Begins id capabilities) is come decided = tt
  of_verdict a (effect.Refuses id why) is come decided = tt
  of_verdict a (effect.Asks id asked) is come decided = tt
  of_verdict a (effect.Stops status) is come decided = tt

  abbrev decided_outs : List Asked → List Out
  decided_outs asked = flat_map (λ a. verdict (effect_at events j) a.job) asked

  by_decision : (a : Asked) (asked : List Asked) (b : Bool) → is_decided_at events j a ≡ b → Comes j a → All_hold (decided_outs asked) → All_hold (decided_outs (cond b (a ∷ asked) asked))
  by_decision a asked true e come h = both P (verdict (effect_at events j) a.job) (decided_outs asked) (of_verdict a (effect_at events j) refl come e) h
  by_decision a asked false e come h = h

  of_decided : (asked : List Asked) → AllByRecursion (Comes j) asked → All_hold (decided_outs (filter (is_decided_at events j) asked))
  of_decided [] h = tt
  of_decided (a ∷ asked) h = by_decision a (filter (is_decided_at events j) asked) (is_decided_at events j a) refl h.0 (of_decided asked h.1)

  of_jobs : (jobs : List JobOf) → All_hold (map out.Job jobs)
  of_jobs [] = tt
  of_jobs (job ∷ jobs) = (of_job job, of_jobs jobs)

  of_once : (alone : Bool) (t : Option Task) (a : Answer) → IsTakenBy (encoding_at events j) (effect_at events j) t → (alone ≡ true → FitsTaken (docs_at events (suc j)) t a) → All_hold (cond alone (answer_to t a) [])
  of_once true None a h f = tt
  of_once true (Some t) a h f = of_answer t a (record { place = j; earlier = omega arith; brought = h; still = refl; fits = (f refl).0 })
  of_once false t a h f = tt

  alone_is : (n : ℕ) → (n == 0) ≡ true → n ≡ 0
  alone_is n h = grind (arith, nat_tests)

  pub of_outputs : IsAnswered workers events j → All_hold (outputs_at workers events j)
  of_outputs fits =
      let asked = asked_before workers events j in
      let own_outs = own workers (session_at events j) (denied_at events j asked) (effect_at events j) (changed_at events j) in
      let jobs = map out.Job (handed_at workers events j (handed_before workers events j)) in
      both P (decided_at workers events j ++ own_outs) (at_once workers events j ++ jobs)
      (both P (decided_at workers events j) own_outs (of_decided asked (all_come j)) of_own)
      (both P (at_once workers events j) jobs
      (of_once (workers == 0) (taken_at events j asked) (turn_at events j).answer (taken_by (session_at events j) _ (effect_at events j)) (λ e. fits (alone_is workers e))) (of_jobs _))
