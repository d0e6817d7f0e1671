-- What the settling of the jobs that are pending comes to.
use Rattle.std.proofs.Common.{◌≡◌, Bool, true, false, ◌&&◌, ◌==◌, ℕ, List, [], ◌∷◌, ◌++◌, Result, OnOk, ap, sym, subst, refl, ◌∙◌, arith}
use Rattle.std.specs.Prelude.{filter, flat_map, codes, Option}
use Rattle.std.specs.List.{AllByRecursion}
use Rattle.std.proofs.lemmas.Bool.Decides.{nat_tests}
use Rattle.std.proofs.lemmas.List.{append-nil}
use Rattle.gq_text.specs.declared.buffer.NoMemory.{NoMemory}
use Rattle.gq_project.specs.declared.document.Doc.{Doc}
use Rattle.gq_rpc.specs.declared.messages.Id.{Id}
use Rattle.gq_rpc.specs.declared.messages.ResponseError.{ResponseError}
use Rattle.gq_rpc.specs.declared.messages.ResponseError.TheVariants as error
use Rattle.gq_events.specs.declared.documents.SessionDocument.{SessionDocument}
use Rattle.gq_events.specs.declared.event.Answer.{Answer}
use Rattle.gq_events.specs.declared.event.Answer.TheVariants as answer
use Rattle.gq_events.specs.Jobs.{JobOf, DoneOf}
use Rattle.gq_events.specs.declared.event.Out.{Out}
use Rattle.gq_events.specs.declared.event.Task.{Task}
use Rattle.gq_events.specs.declared.refusals.Denial.{Denial}
use Rattle.gq_events.specs.declared.effect.Change.{Change}
use Rattle.gq_events.specs.declared.effect.Effect.{Effect}
use Rattle.gq_events.specs.declared.effect.Effect.TheVariants as effect
use Rattle.gq_events.specs.Tasks.{is_of}
use Rattle.gq_events.specs.Rules.{Session, decides, verdict, session_after, changed_by, taken, own, refused_as, failed, answered}
use Rattle.gq_events.specs.Machine.{left, verdicts}
use Rattle.gq_desk.specs.Helping.Settling.{refused_each, rest_of}
use Rattle.gq_desk.proofs.Taking.{none_passes, all_stay}

-- what decides all, or none
pub all_pass : {X : Type 0} (xs : List X) → filter (λ (x : X). true) xs ≡ xs
all_pass [] = refl
all_pass (x ∷ xs) = ap (λ ys. x ∷ ys) (all_pass xs)

pub none_pass : {X : Type 0} (xs : List X) → filter (λ (x : X). false) xs ≡ []
none_pass [] = refl
none_pass (x ∷ xs) = none_pass xs

-- a change decides all
pub none_modified : (docs : List Doc) (e : Effect) (c : Change) (pending none : List JobOf) → e ≡ effect.Changes c → none ≡ [] → none ≡ left docs e pending
none_modified docs e c pending none is h = rw is (h ∙ sym (none_pass pending))

pub told_modified : (docs : List Doc) (e : Effect) (c : Change) (pending : List JobOf) (old new : List Out) → e ≡ effect.Changes c → new ≡ old ++ refused_each error.ContentModified pending → new ≡ old ++ verdicts docs e pending
told_modified docs e c pending old new is told = rw is (told ∙ ap (λ (l : List JobOf). old ++ refused_each error.ContentModified l) (sym (all_pass pending)))

-- and so does a shutdown
pub none_shut : (docs : List Doc) (e : Effect) (id : Id) (pending none : List JobOf) → e ≡ effect.ShutsDown id → none ≡ [] → none ≡ left docs e pending
none_shut docs e id pending none is h = rw is (h ∙ sym (none_pass pending))

pub told_shut : (docs : List Doc) (e : Effect) (id : Id) (pending : List JobOf) (old new : List Out) → e ≡ effect.ShutsDown id → new ≡ old ++ refused_each (failed (codes "shutdown")) pending → new ≡ old ++ verdicts docs e pending
told_shut docs e id pending old new is told = rw is (told ∙ ap (λ (l : List JobOf). old ++ refused_each (failed (codes "shutdown")) l) (sym (all_pass pending)))

-- a cancel decides the request of its id
pub told_cancelled : (docs : List Doc) (e : Effect) (id : Id) (pending : List JobOf) (old new : List Out) → e ≡ effect.Cancels id → new ≡ old ++ refused_each error.Cancelled (filter (λ job. is_of id job.task) pending) → new ≡ old ++ verdicts docs e pending
told_cancelled docs e id pending old new is told = rw is told

-- what neither changes, shuts down, cancels nor finishes anything decides none
module _ (docs : List Doc) (e : Effect) (pending : List JobOf) (no_change : (c : Change) → e ≡ effect.Changes c → ⊥) (no_shutdown : (id : Id) → e ≡ effect.ShutsDown id → ⊥) (no_cancel : (id : Id) → e ≡ effect.Cancels id → ⊥) (no_end : (done : DoneOf) → e ≡ effect.Finishes done → ⊥) where
  undecided : (job : JobOf) → decides docs e job ≡ false
  undecided job = by_cases e refl
    where
      by_cases : (f : Effect) → e ≡ f → decides docs e job ≡ false
      by_cases effect.Nothing is = ap (λ (f : Effect). decides docs f job) is
      by_cases (effect.LoadsBehind load) is = ap (λ (f : Effect). decides docs f job) is
      by_cases (effect.Begins id capabilities) is = ap (λ (f : Effect). decides docs f job) is
      by_cases (effect.Refuses id why) is = ap (λ (f : Effect). decides docs f job) is
      by_cases (effect.Asks id asked) is = ap (λ (f : Effect). decides docs f job) is
      by_cases (effect.Changes c) is = absurd (no_change c is)
      by_cases (effect.Cancels id) is = absurd (no_cancel id is)
      by_cases (effect.ShutsDown id) is = absurd (no_shutdown id is)
      by_cases (effect.Finishes done) is = absurd (no_end done is)
      by_cases (effect.Stops status) is = ap (λ (f : Effect). decides docs f job) is

  none_is_decided : (jobs : List JobOf) → AllByRecursion (λ job. decides docs e job ≡ false) jobs
  none_is_decided [] = tt
  none_is_decided (job ∷ jobs) = (undecided job, none_is_decided jobs)

  pub others_left : pending ≡ left docs e pending
  others_left = sym (all_stay (decides docs e) pending (none_is_decided pending))

  pub others_told : (old : List Out) → old ≡ old ++ verdicts docs e pending
  others_told old = sym (append-nil old) ∙ ap (λ (l : List JobOf). old ++ flat_map (verdict e) l) (sym (none_passes (decides docs e) pending (none_is_decided pending)))

-- what a worker made decides a job of its number alone
first_of_both : (a b : Bool) → (a && b) ≡ true → a ≡ true
first_of_both true b h = refl
first_of_both false b h = h

same_number : (n m : ℕ) → (n == m) ≡ true → m ≡ n
same_number n m h = grind (arith, nat_tests)

pub of_its_number : (docs : List Doc) (done : DoneOf) (job : JobOf) → decides docs (effect.Finishes done) job ≡ true → job.number ≡ done.job
of_its_number docs done job h = same_number done.job job.number (first_of_both _ _ h)

-- what a worker made changes nothing but the jobs
pub session_stays : (s : Session) (e : Effect) (d : Option SessionDocument) → session_after s (rest_of e) d ≡ session_after s e d
session_stays s (effect.Finishes done) d = refl
session_stays s effect.Nothing d = refl
session_stays s (effect.LoadsBehind load) d = refl
session_stays s (effect.Begins id capabilities) d = refl
session_stays s (effect.Refuses id why) d = refl
session_stays s (effect.Asks id asked) d = refl
session_stays s (effect.Changes c) d = refl
session_stays s (effect.Cancels id) d = refl
session_stays s (effect.ShutsDown id) d = refl
session_stays s (effect.Stops status) d = refl

pub changed_stays : (s : Session) (e : Effect) (refused : Bool) → changed_by s (rest_of e) refused ≡ changed_by s e refused
changed_stays s (effect.Finishes done) refused = refl
changed_stays s effect.Nothing refused = refl
changed_stays s (effect.LoadsBehind load) refused = refl
changed_stays s (effect.Begins id capabilities) refused = refl
changed_stays s (effect.Refuses id why) refused = refl
changed_stays s (effect.Asks id asked) refused = refl
changed_stays s (effect.Changes c) refused = refl
changed_stays s (effect.Cancels id) refused = refl
changed_stays s (effect.ShutsDown id) refused = refl
changed_stays s (effect.Stops status) refused = refl

pub own_stays : (workers : ℕ) (s : Session) (denied : Option Denial) (e : Effect) (d : Option SessionDocument) → own workers s denied (rest_of e) d ≡ own workers s denied e d
own_stays workers s denied (effect.Finishes done) d = refl
own_stays workers s denied effect.Nothing d = refl
own_stays workers s denied (effect.LoadsBehind load) d = refl
own_stays workers s denied (effect.Begins id capabilities) d = refl
own_stays workers s denied (effect.Refuses id why) d = refl
own_stays workers s denied (effect.Asks id asked) d = refl
own_stays workers s denied (effect.Changes c) d = refl
own_stays workers s denied (effect.Cancels id) d = refl
own_stays workers s denied (effect.ShutsDown id) d = refl
own_stays workers s denied (effect.Stops status) d = refl

pub taken_stays : (s : Session) (denied : Option Denial) (e : Effect) → taken s denied (rest_of e) ≡ taken s denied e
taken_stays s denied (effect.Finishes done) = refl
taken_stays s denied effect.Nothing = refl
taken_stays s denied (effect.LoadsBehind load) = refl
taken_stays s denied (effect.Begins id capabilities) = refl
taken_stays s denied (effect.Refuses id why) = refl
taken_stays s denied (effect.Asks id asked) = refl
taken_stays s denied (effect.Changes c) = refl
taken_stays s denied (effect.Cancels id) = refl
taken_stays s denied (effect.ShutsDown id) = refl
taken_stays s denied (effect.Stops status) = refl
