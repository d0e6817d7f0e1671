-- What stops a session with workers: `exit`, or the end of the input, unless it is a file.
use Rattle.std.proofs.Common.{◌≡◌, ℕ, Bool, true, false, cond, List, [], ◌∷◌, ◌++◌, map, Option, Some, None, ap, sym, refl, ◌∙◌, append-nil}
use Rattle.std.specs.Prelude.{flat_map, filter, ◌==◌}
use Rattle.gq_rpc.specs.declared.messages.Id.{Id}
use Rattle.gq_rpc.specs.declared.messages.ResponseError.{ResponseError}
use Rattle.gq_rpc.specs.declared.messages.Request.{Request}
use Rattle.gq_rpc.specs.declared.messages.Request.TheVariants as request
use Rattle.gq_rpc.specs.declared.messages.Notification.TheVariants as notification
use Rattle.gq_rpc.specs.declared.messages.Incoming.TheVariants as incoming
use Rattle.gq_project.specs.declared.document.DocChange.{DocChange}
use Rattle.gq_events.specs.declared.documents.SessionDocument.{SessionDocument}
use Rattle.gq_events.specs.declared.event.Task.{Task}
use Rattle.gq_events.specs.declared.event.Task.TheVariants as task
use Rattle.gq_events.specs.declared.event.Answer.{Answer}
use Rattle.gq_events.specs.declared.event.Event.{Event}
use Rattle.gq_events.specs.declared.event.Event.TheVariants as event
use Rattle.gq_events.specs.declared.event.Out.{Out}
use Rattle.gq_events.specs.declared.event.Out.TheVariants as out
use Rattle.gq_events.specs.declared.effect.Phase.{Phase}
use Rattle.gq_events.specs.declared.effect.Phase.TheVariants.{Fresh, Running, Down, Stopped}
use Rattle.gq_events.specs.declared.effect.Change.{Change}
use Rattle.gq_events.specs.declared.effect.Change.TheVariants as change
use Rattle.gq_events.specs.declared.effect.Effect.{Effect}
use Rattle.gq_events.specs.declared.effect.Effect.TheVariants as effect
use Rattle.gq_events.specs.declared.refusals.Denial.{Denial}
use Rattle.gq_events.specs.Documents.{docs_of, is_change, key_of, published}
use Rattle.gq_events.specs.Jobs.{JobOf}
use Rattle.gq_events.specs.Lifecycle.{is_load, is_stop}
use Rattle.gq_events.specs.Rules.{Turn, Session, effect_of, effect_of_request, decides, verdict, refused_as, cleared, shown, own, answer_to}
use Rattle.gq_events.specs.History.{outputs, outputs_behind}
use Rattle.gq_events.specs.Machine.{State, start, reached, writes, effect_in, changed_in, taken_by, denied_in, verdicts, brings, next_jobs, jobs_then}
use Rattle.gq_events.proofs.Behind.{steps_tell_history, outputs_go_on}
use Rattle.gq_desk.specs.Frames.{stop_in}
use Rattle.gq_desk.proofs.Runs.{stop_in-append}
use Rattle.gq_crew.proofs.Alone.{answered_goes, brought_goes, denied_goes, cleared_goes, where_goes}

-- ---- what does not stop

both_go : (xs ys : List Out) → stop_in xs ≡ None → stop_in ys ≡ None → stop_in (xs ++ ys) ≡ None
both_go xs ys first next = stop_in-append xs ys first ∙ next

refused_goes : (t : Task) (why : ResponseError) → stop_in (refused_as t why) ≡ None
refused_goes (task.Ask encoding id q) why = refl
refused_goes (task.Check encoding) why = refl

verdict_goes : (e : Effect) (job : JobOf) → stop_in (verdict e job) ≡ None
verdict_goes (effect.Changes c) job = refused_goes job.task _
verdict_goes (effect.ShutsDown id) job = refused_goes job.task _
verdict_goes (effect.Cancels id) job = refused_goes job.task _
verdict_goes (effect.Finishes done) job = answered_goes job.task done.answer
verdict_goes effect.Nothing job = refl
verdict_goes (effect.LoadsBehind load) job = refl
verdict_goes (effect.Begins id capabilities) job = refl
verdict_goes (effect.Refuses id why) job = refl
verdict_goes (effect.Asks id asked) job = refl
verdict_goes (effect.Stops status) job = refl

verdicts_go : (e : Effect) (jobs : List JobOf) → stop_in (flat_map (verdict e) jobs) ≡ None
verdicts_go e [] = refl
verdicts_go e (job ∷ jobs) = both_go (verdict e job) (flat_map (verdict e) jobs) (verdict_goes e job) (verdicts_go e jobs)

shown_goes : (workers : ℕ) (c : DocChange) → stop_in (shown workers c) ≡ None
shown_goes workers c = elim (workers == 0) as (λ b. stop_in (cond b [] (out.Publish c ∷ [])) ≡ None) [
  | true ↦ refl
  | false ↦ refl
]

jobs_go : (jobs : List JobOf) → stop_in (map out.Job jobs) ≡ None
jobs_go [] = refl
jobs_go (job ∷ jobs) = jobs_go jobs

alone_goes : (b : Bool) (t : Option Task) (a : Answer) → stop_in (cond b (answer_to t a) []) ≡ None
alone_goes true t a = brought_goes t a
alone_goes false t a = refl

-- ---- what does

own_stops : (workers : ℕ) (s : Session) (denied : Option Denial) (e : Effect) (document : Option SessionDocument) (status : ℕ) → stop_in (own workers s denied e document) ≡ Some status → e ≡ effect.Stops status
own_stops workers s denied (effect.Stops code) document status h = let same : code ≡ status = cc in ap effect.Stops same
own_stops workers s denied effect.Nothing document status h = absurd (cc)
own_stops workers s denied (effect.Begins id capabilities) document status h = absurd (cc)
own_stops workers s denied (effect.Refuses id why) document status h = absurd (cc)
own_stops workers s denied (effect.Asks id asked) document status h = let none = denied_goes id denied in absurd (cc)
own_stops workers s denied (effect.Changes c) document status h =
    let none = both_go (cond s.diagnostics (cleared s.documents c) []) (shown workers (published (key_of c) document)) (where_goes s.diagnostics (cleared s.documents c) (cleared_goes s.documents c)) (shown_goes workers (published (key_of c) document)) in
    let clash : None ≡ Some status = sym none ∙ h in absurd (cc)
own_stops workers s denied (effect.LoadsBehind load) document status h = absurd (cc)
own_stops workers s denied (effect.Cancels id) document status h = absurd (cc)
own_stops workers s denied (effect.ShutsDown id) document status h = absurd (cc)
own_stops workers s denied (effect.Finishes done) document status h = absurd (cc)

-- behind others that do not stop, and before others
front_stops : (ys zs : List Out) (status : ℕ) → stop_in zs ≡ None → stop_in (ys ++ zs) ≡ Some status → stop_in ys ≡ Some status
front_stops [] zs status last h = let clash : None ≡ Some status = sym last ∙ h in absurd (cc)
front_stops (out.Stop code ∷ ys) zs status last h = h
front_stops (out.Reply message ∷ ys) zs status last h = front_stops ys zs status last h
front_stops (out.Notify message ∷ ys) zs status last h = front_stops ys zs status last h
front_stops (out.Publish c ∷ ys) zs status last h = front_stops ys zs status last h
front_stops (out.Job job ∷ ys) zs status last h = front_stops ys zs status last h

between : (xs ys zs : List Out) (status : ℕ) → stop_in xs ≡ None → stop_in zs ≡ None → stop_in ((xs ++ ys) ++ zs) ≡ Some status → stop_in ys ≡ Some status
between xs ys zs status first last h = sym (stop_in-append xs ys first) ∙ front_stops (xs ++ ys) zs status last h

writes_stops : (s : State) (turn : Turn) (status : ℕ) → stop_in (writes s turn) ≡ Some status → effect_in s turn ≡ effect.Stops status
writes_stops s turn status h =
    let e = effect_in s turn in
    let document = changed_in s turn in
    let t = taken_by s.session s.jobs e in
    let denied = denied_in s.session s.jobs e in
    let last : stop_in (brings s.workers s.session s.jobs e t turn.answer) ≡ None =
    both_go (cond (s.workers == 0) (answer_to t turn.answer) []) (map out.Job (next_jobs (jobs_then s.workers s.session s.jobs e t))) (alone_goes (s.workers == 0) t turn.answer)
    (jobs_go (next_jobs (jobs_then s.workers s.session s.jobs e t))) in
    own_stops s.workers s.session denied e document status
    (between (verdicts (docs_of s.session.documents) e s.jobs.pending) (own s.workers s.session denied e document) (brings s.workers s.session s.jobs e t turn.answer) status
    (verdicts_go e (filter (decides (docs_of s.session.documents) e) s.jobs.pending)) last h)

-- ---- which events do

request_goes : (phase : Phase) (id : Id) (r : Request) (status : ℕ) → effect_of_request phase id r ≡ effect.Stops status → ⊥
request_goes Fresh id (request.Initialize c) status h = cc
request_goes Fresh id request.Shutdown status h = cc
request_goes Fresh id (request.Ask q) status h = cc
request_goes Fresh id request.InvalidParams status h = cc
request_goes Fresh id request.Unknown status h = cc
request_goes Running id (request.Initialize c) status h = cc
request_goes Running id request.Shutdown status h = cc
request_goes Running id (request.Ask q) status h = cc
request_goes Running id request.InvalidParams status h = cc
request_goes Running id request.Unknown status h = cc
request_goes Down id r status h = cc
request_goes Stopped id r status h = cc

change_goes : (test : Bool) (c : Change) (status : ℕ) → cond test (effect.Changes c) effect.Nothing ≡ effect.Stops status → ⊥
change_goes true c status h = cc
change_goes false c status h = cc

module _ (documents : List SessionDocument) (refused : Bool) (a : Answer) (status : ℕ) where
  abbrev turn_of : Event → Turn
  turn_of e = record { event = e; text_refused = refused; answer = a }

  abbrev Stops : Phase → Event → Type 0
  Stops phase e = effect_of phase documents e ≡ effect.Stops status

  while_fresh : (e : Event) → Stops Fresh e → is_load (turn_of e) ≡ false → is_stop (turn_of e) ≡ true
  while_fresh (event.Message (incoming.Notification notification.Exit)) h l = refl
  while_fresh (event.Message (incoming.Notification (notification.DidOpen item))) h l = absurd (cc)
  while_fresh (event.Message (incoming.Notification (notification.DidChange params))) h l = absurd (cc)
  while_fresh (event.Message (incoming.Notification (notification.DidClose key))) h l = absurd (cc)
  while_fresh (event.Message (incoming.Notification (notification.Cancel id))) h l = absurd (cc)
  while_fresh (event.Message (incoming.Notification notification.Unknown)) h l = absurd (cc)
  while_fresh (event.Message (incoming.Request id r)) h l = absurd (request_goes Fresh id r status h)
  while_fresh (event.Message (incoming.Invalid id)) h l = absurd (cc)
  while_fresh (event.Message incoming.Ignored) h l = absurd (cc)
  while_fresh (event.Message incoming.NotJson) h l = absurd (cc)
  while_fresh (event.Load load) h l = absurd (cc)
  while_fresh (event.Done done) h l = absurd (cc)
  while_fresh (event.End end) h l = refl

  while_running : (e : Event) → Stops Running e → is_load (turn_of e) ≡ false → is_stop (turn_of e) ≡ true
  while_running (event.Message (incoming.Notification notification.Exit)) h l = refl
  while_running (event.Message (incoming.Notification (notification.DidOpen item))) h l = absurd (change_goes (is_change documents (change.Open item)) (change.Open item) status h)
  while_running (event.Message (incoming.Notification (notification.DidChange params))) h l = absurd (change_goes (is_change documents (change.Edit params)) (change.Edit params) status h)
  while_running (event.Message (incoming.Notification (notification.DidClose key))) h l = absurd (change_goes (is_change documents (change.Close key)) (change.Close key) status h)
  while_running (event.Message (incoming.Notification (notification.Cancel id))) h l = absurd (cc)
  while_running (event.Message (incoming.Notification notification.Unknown)) h l = absurd (cc)
  while_running (event.Message (incoming.Request id r)) h l = absurd (request_goes Running id r status h)
  while_running (event.Message (incoming.Invalid id)) h l = absurd (cc)
  while_running (event.Message incoming.Ignored) h l = absurd (cc)
  while_running (event.Message incoming.NotJson) h l = absurd (cc)
  while_running (event.Load load) h l = absurd (cc)
  while_running (event.Done done) h l = absurd (cc)
  while_running (event.End end) h l = refl

  while_down : (e : Event) → Stops Down e → is_load (turn_of e) ≡ false → is_stop (turn_of e) ≡ true
  while_down (event.Message (incoming.Notification notification.Exit)) h l = refl
  while_down (event.Message (incoming.Notification (notification.DidOpen item))) h l = absurd (cc)
  while_down (event.Message (incoming.Notification (notification.DidChange params))) h l = absurd (cc)
  while_down (event.Message (incoming.Notification (notification.DidClose key))) h l = absurd (cc)
  while_down (event.Message (incoming.Notification (notification.Cancel id))) h l = absurd (cc)
  while_down (event.Message (incoming.Notification notification.Unknown)) h l = absurd (cc)
  while_down (event.Message (incoming.Request id r)) h l = absurd (request_goes Down id r status h)
  while_down (event.Message (incoming.Invalid id)) h l = absurd (cc)
  while_down (event.Message incoming.Ignored) h l = absurd (cc)
  while_down (event.Message incoming.NotJson) h l = absurd (cc)
  while_down (event.Load load) h l = absurd (cc)
  while_down (event.Done done) h l = absurd (cc)
  while_down (event.End end) h l = refl

  stops_at : (phase : Phase) (e : Event) → Stops phase e → is_load (turn_of e) ≡ false → is_stop (turn_of e) ≡ true
  stops_at Fresh e h l = while_fresh e h l
  stops_at Running e h l = while_running e h l
  stops_at Down e h l = while_down e h l
  stops_at Stopped e h l = absurd (cc)

-- the last turn, where those before it do not stop
pub last_stops : (workers : ℕ) (front : List Turn) (last : Turn) (status : ℕ) → stop_in (outputs workers front) ≡ None → stop_in (outputs workers (front ++ last ∷ [])) ≡ Some status → is_load last ≡ false → is_stop last ≡ true
last_stops workers front last status goes stops l =
    let s = reached (start workers) front in
    let one : outputs_behind workers front (last ∷ []) ≡ writes s last = sym (steps_tell_history workers front (last ∷ [])) ∙ append-nil (writes s last) in
    let here : stop_in (writes s last) ≡ Some status =
    sym (ap stop_in one) ∙ (sym (stop_in-append (outputs workers front) (outputs_behind workers front (last ∷ [])) goes) ∙ (sym (ap stop_in (outputs_go_on workers front (last ∷ []))) ∙ stops)) in
    stops_at s.session.documents last.text_refused last.answer status s.session.phase last.event (writes_stops s last status here) l
