-- A desk without workers, and what follows a stop.
use Rattle.std.proofs.Common.{◌≡◌, ℕ, Bool, true, false, cond, List, [], ◌∷◌, ◌++◌, map, Option, Some, None, ap, sym, refl, ◌∙◌, append-nil}
use Rattle.std.specs.Prelude.{option_to_list, option_map, is_some}
use Rattle.gq_rpc.specs.declared.messages.Outgoing.{Outgoing}
use Rattle.gq_rpc.specs.declared.messages.Id.{Id}
use Rattle.gq_events.specs.declared.documents.SessionDocument.{SessionDocument}
use Rattle.gq_events.specs.declared.event.Task.{Task}
use Rattle.gq_events.specs.declared.event.Task.TheVariants as task
use Rattle.gq_events.specs.declared.event.Answer.{Answer}
use Rattle.gq_events.specs.declared.event.Answer.TheVariants as answer
use Rattle.gq_events.specs.declared.event.Event.{Event}
use Rattle.gq_events.specs.declared.event.Event.TheVariants as event
use Rattle.gq_events.specs.declared.event.Load.{Load}
use Rattle.gq_events.specs.Lifecycle.{is_load, load_in}
use Rattle.gq_events.specs.declared.event.Out.{Out}
use Rattle.gq_events.specs.declared.event.Out.TheVariants as out
use Rattle.gq_events.specs.declared.refusals.Denial.{Denial}
use Rattle.gq_events.specs.declared.effect.Phase.{Phase}
use Rattle.gq_events.specs.declared.effect.Phase.TheVariants.{Fresh, Running, Down, Stopped}
use Rattle.gq_events.specs.declared.effect.Change.{Change}
use Rattle.gq_events.specs.declared.effect.Change.TheVariants as change
use Rattle.gq_events.specs.declared.effect.Effect.{Effect}
use Rattle.gq_events.specs.declared.effect.Effect.TheVariants as effect
use Rattle.gq_events.specs.Documents.{docs_of, document_at, is_open, is_one_too_many}
use Rattle.gq_events.specs.Rules.{Turn, Session, begun, effect_of, session_after, denied_by, taken, answered, denied_with, nothing_wrong, cleared, own_of_change, own, answer_to, FitsTaken}
use Rattle.gq_events.specs.History.{outputs, outputs_behind}
use Rattle.gq_events.specs.Machine.{State, start, after, writes, run, reached, effect_in, changed_in, taken_by, FitsRun}
use Rattle.gq_events.proofs.Alone.{alone, writes_alone}
use Rattle.gq_events.proofs.Behind.{steps_tell_history, outputs_go_on}
use Rattle.gq_desk.specs.Frames.{stop_in}
use Rattle.gq_desk.proofs.Runs.{stop_in-append}
use Rattle.gq_events.specs.declared.event.LoadedContent.TheVariants as content
use Rattle.gq_reader.specs.Inputs.{Input, Body, File, event_of, load_of}
use Rattle.gq_crew.specs.Output.{AreTurnsOf}

-- ---- it stays without workers

pub reached_alone : (s : Session) (turns : List Turn) → reached (alone s) turns ≡ alone (reached (alone s) turns).session
reached_alone s [] = refl
reached_alone s (turn ∷ turns) = reached_alone (session_after s (effect_in (alone s) turn) (changed_in (alone s) turn)) turns

-- ---- what stops

pub answered_goes : (t : Task) (a : Answer) → stop_in (answered t a) ≡ None
answered_goes t (answer.Response message) = refl
answered_goes t (answer.Report messages) = reports_go messages
  where
    reports_go : (messages : List Outgoing) → stop_in (map out.Notify messages) ≡ None
    reports_go [] = refl
    reports_go (message ∷ messages) = reports_go messages
answered_goes (task.Ask encoding id q) answer.NoMemory = refl
answered_goes (task.Check encoding) answer.NoMemory = refl
answered_goes t answer.Superseded = refl

pub brought_goes : (t : Option Task) (a : Answer) → stop_in (answer_to t a) ≡ None
brought_goes None a = refl
brought_goes (Some t) a = answered_goes t a

pub denied_goes : (id : Id) (denied : Option Denial) → stop_in (denied_with id denied) ≡ None
denied_goes id None = refl
denied_goes id (Some how) = refl

closed_goes : (found : Option SessionDocument) → stop_in (option_to_list (option_map nothing_wrong found)) ≡ None
closed_goes None = refl
closed_goes (Some document) = refl

pub cleared_goes : (documents : List SessionDocument) (c : Change) → stop_in (cleared documents c) ≡ None
cleared_goes documents (change.Open item) = refl
cleared_goes documents (change.Edit params) = refl
cleared_goes documents (change.Load load) = refl
cleared_goes documents (change.Close key) = closed_goes (document_at key documents)

pub where_goes : (b : Bool) (outs : List Out) → stop_in outs ≡ None → stop_in (cond b outs []) ≡ None
where_goes true outs h = h
where_goes false outs h = refl

change_goes : (s : Session) (c : Change) (document : Option SessionDocument) → stop_in (own_of_change 0 s c document) ≡ None
change_goes s c document = stop_in-append (cond s.diagnostics (cleared s.documents c) []) [] (where_goes s.diagnostics (cleared s.documents c) (cleared_goes s.documents c))

-- two that do not stop, though they are said to
pub never : (xs ys : List Out) (status : ℕ) (P : Type 0) → stop_in xs ≡ None → stop_in ys ≡ None → stop_in (xs ++ ys) ≡ Some status → P
never xs ys status P first next h = let e : None ≡ Some status = sym (stop_in-append xs ys first ∙ next) ∙ h in absurd (cc)

stops_by : (s : Session) (denied : Option Denial) (e : Effect) (document : Option SessionDocument) (t : Option Task) (a : Answer) (status : ℕ)
    → stop_in (own 0 s denied e document ++ answer_to t a) ≡ Some status → e ≡ effect.Stops status
stops_by s denied (effect.Stops code) document t a status h = let same : code ≡ status = cc in ap effect.Stops same
stops_by s denied effect.Nothing document t a status h = never [] (answer_to t a) status _ refl (brought_goes t a) h
stops_by s denied (effect.Begins id capabilities) document t a status h = never (own 0 s denied (effect.Begins id capabilities) document) (answer_to t a) status _ refl (brought_goes t a) h
stops_by s denied (effect.Refuses id why) document t a status h = never (own 0 s denied (effect.Refuses id why) document) (answer_to t a) status _ refl (brought_goes t a) h
stops_by s denied (effect.Asks id asked) document t a status h = never (denied_with id denied) (answer_to t a) status _ (denied_goes id denied) (brought_goes t a) h
stops_by s denied (effect.Changes c) document t a status h = never (own_of_change 0 s c document) (answer_to t a) status _ (change_goes s c document) (brought_goes t a) h
stops_by s denied (effect.LoadsBehind load) document t a status h = never [] (answer_to t a) status _ refl (brought_goes t a) h
stops_by s denied (effect.Cancels id) document t a status h = never [] (answer_to t a) status _ refl (brought_goes t a) h
stops_by s denied (effect.ShutsDown id) document t a status h = never (own 0 s denied (effect.ShutsDown id) document) (answer_to t a) status _ refl (brought_goes t a) h
stops_by s denied (effect.Finishes done) document t a status h = never [] (answer_to t a) status _ refl (brought_goes t a) h

-- a file that stops a session is one too many
loaded_status : (open_there many : Bool) (load : Load) (status : ℕ) → cond open_there (effect.LoadsBehind load) (cond many (effect.Stops 3) (effect.Changes (change.Load load))) ≡ effect.Stops status → status ≡ 3
loaded_status true many load status h = absurd (cc)
loaded_status false true load status h = cc
loaded_status false false load status h = absurd (cc)

load_status : (phase : Phase) (documents : List SessionDocument) (load : Load) (status : ℕ) → effect_of phase documents (event.Load load) ≡ effect.Stops status → status ≡ 3
load_status Fresh documents load status h = loaded_status (is_open load.key documents) (is_one_too_many documents load) load status h
load_status Running documents load status h = loaded_status (is_open load.key documents) (is_one_too_many documents load) load status h
load_status Down documents load status h = absurd (cc)
load_status Stopped documents load status h = absurd (cc)

event_status : (phase : Phase) (documents : List SessionDocument) (e : Event) (status : ℕ) → is_some (load_in e) ≡ true → effect_of phase documents e ≡ effect.Stops status → status ≡ 3
event_status phase documents (event.Load load) status by h = load_status phase documents load status h
event_status phase documents (event.Message m) status by h = absurd (cc)
event_status phase documents (event.Done done) status by h = absurd (cc)
event_status phase documents (event.End end) status by h = absurd (cc)

writes_status : (s : Session) (turn : Turn) (status : ℕ) → is_load turn ≡ true → stop_in (writes (alone s) turn) ≡ Some status → status ≡ 3
writes_status s turn status by h =
    let e = effect_in (alone s) turn in
    event_status s.phase s.documents turn.event status by
    (stops_by s (denied_by s [] e) e (changed_in (alone s) turn) (taken s (denied_by s [] e) e) turn.answer status (ap stop_in (sym (writes_alone s turn)) ∙ h))

three_of : (stop : Option ℕ) → is_some stop ≡ true → ((status : ℕ) → stop ≡ Some status → status ≡ 3) → stop ≡ Some 3
three_of None h by = absurd (cc)
three_of (Some status) h by = ap Some (by status refl)

three_behind : (s : State) → s ≡ alone s.session → (turn : Turn) → is_load turn ≡ true → is_some (stop_in (writes s turn)) ≡ true → stop_in (writes s turn) ≡ Some 3
three_behind s is turn by h =
    three_of (stop_in (writes s turn)) h (λ status stops. writes_status s.session turn status by (ap (λ (t : State). stop_in (writes t turn)) (sym is) ∙ stops))

-- ---- turns that are not served

-- the event of an input, with nothing loaded
abbrev pub quiet_event : Input → Event
quiet_event (Body body) = event_of body
quiet_event (File key) = load_of key content.Gone

-- a turn whose answer, if it brings a task, was refused memory
abbrev pub quiet_turn : Input → Turn
quiet_turn input = record { event = quiet_event input; text_refused = false; answer = answer.NoMemory }

abbrev pub quiet : List Input → List Turn
quiet inputs = map quiet_turn inputs

pub quiet_of : (inputs : List Input) → AreTurnsOf {F = Unit {0}} (λ files key content mid. Unit {0}) tt inputs (quiet inputs)
quiet_of [] = tt
quiet_of (Body body ∷ inputs) = (refl, quiet_of inputs)
quiet_of (File key ∷ inputs) = (content.Gone, refl, tt, tt, quiet_of inputs)

no_memory_fits : (documents : List SessionDocument) (t : Option Task) → FitsTaken (docs_of documents) t answer.NoMemory
no_memory_fits documents None = tt
no_memory_fits documents (Some (task.Ask encoding id q)) = (∣ tt ∣₁, refl)
no_memory_fits documents (Some (task.Check encoding)) = (∣ tt ∣₁, refl)

pub quiet_fits : (s : State) (inputs : List Input) → FitsRun s (quiet inputs)
quiet_fits s [] = tt
quiet_fits s (input ∷ inputs) =
    let turn = quiet_turn input in
    ((λ alone. no_memory_fits (after s turn).session.documents (taken_by s.session s.jobs (effect_in s turn))), quiet_fits (after s turn) inputs)

-- ---- what more turns put out

pub outputs_more : (turns more : List Turn) → outputs 0 (turns ++ more) ≡ outputs 0 turns ++ run (reached (start 0) turns) more
outputs_more turns more = outputs_go_on 0 turns more ∙ ap (λ (l : List Out). outputs 0 turns ++ l) (sym (steps_tell_history 0 turns more))

-- the status at which a file stops a session
pub load_stops : (front : List Turn) (last : Turn) → is_load last ≡ true → is_some (stop_in (outputs_behind 0 front (last ∷ []))) ≡ true → stop_in (outputs_behind 0 front (last ∷ [])) ≡ Some 3
load_stops front last by h =
    let s = reached (start 0) front in
    let one : outputs_behind 0 front (last ∷ []) ≡ writes s last = sym (steps_tell_history 0 front (last ∷ [])) ∙ append-nil (writes s last) in
    ap stop_in one ∙ three_behind s (reached_alone begun front) last by (ap (λ (l : List Out). is_some (stop_in l)) (sym one) ∙ h)

-- where all of it does not stop, a front does not
pub goes_before : (outs more : List Out) → stop_in (outs ++ more) ≡ None → stop_in outs ≡ None
goes_before [] more h = refl
goes_before (out.Stop status ∷ outs) more h = absurd (cc)
goes_before (out.Reply message ∷ outs) more h = goes_before outs more h
goes_before (out.Notify message ∷ outs) more h = goes_before outs more h
goes_before (out.Publish c ∷ outs) more h = goes_before outs more h
goes_before (out.Job job ∷ outs) more h = goes_before outs more h
