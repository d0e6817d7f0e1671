-- What came tells what the session has come to.
use Rattle.std.proofs.Common.{◌≡◌, ◌⊎◌, ◌+◌, ℕ, zero, suc, Bool, true, false, cond, not, ◌||◌, List, [], ◌∷◌, ◌++◌, take, drop, inl, inr, Option, Some, None, is_some, option_and_then, ap, sym, refl, ◌∙◌, subst, arith, one-add, add-one, fold, find, append_assoc}
use Rattle.std.specs.Prelude.{filter}
use Rattle.std.proofs.Math.Logic.{⊎_elim}
use Rattle.std.proofs.Math.Seq.{take-suc}
use Rattle.std.proofs.lemmas.List.Sums.{fold-append}
use Rattle.std.specs.List.{list_any, before_first, position_or_len}
use Rattle.std.specs.Option.{option_map_or}
use Rattle.gq_text.specs.declared.place.PositionEncoding.{PositionEncoding}
use Rattle.gq_rpc.specs.declared.messages.ClientCapabilities.{ClientCapabilities}
use Rattle.gq_rpc.specs.declared.messages.Id.{Id}
use Rattle.gq_rpc.specs.declared.messages.Request.{Request}
use Rattle.gq_rpc.specs.declared.messages.Request.TheVariants as request
use Rattle.gq_rpc.specs.declared.messages.Notification.{Notification}
use Rattle.gq_rpc.specs.declared.messages.Notification.TheVariants as notification
use Rattle.gq_rpc.specs.declared.messages.Incoming.{Incoming}
use Rattle.gq_rpc.specs.declared.messages.Incoming.TheVariants as incoming
use Rattle.gq_events.specs.declared.documents.SessionDocument.{SessionDocument}
use Rattle.gq_events.specs.declared.event.Load.{Load}
use Rattle.gq_events.specs.Jobs.{DoneOf}
use Rattle.gq_events.specs.declared.event.Event.{Event}
use Rattle.gq_events.specs.declared.event.Event.TheVariants as event
use Rattle.gq_events.specs.declared.event.Answer.{Answer}
use Rattle.gq_events.specs.declared.effect.Phase.{Phase}
use Rattle.gq_events.specs.declared.effect.Phase.TheVariants.{Fresh, Running, Down, Stopped}
use Rattle.gq_events.specs.declared.effect.Change.{Change}
use Rattle.gq_events.specs.declared.effect.Change.TheVariants as change
use Rattle.gq_events.specs.declared.effect.Effect.{Effect}
use Rattle.gq_events.specs.declared.effect.Effect.TheVariants as effect
use Rattle.gq_events.specs.Positions.{default_encoding, encoding_for}
use Rattle.gq_events.specs.Documents.{is_open, is_change, is_one_too_many, key_of, changed, loaded, with_changed, behind_after}
use Rattle.gq_events.specs.Rules.{Turn, Session, begun, begun_by, changed_by, session_after, effect_of, effect_of_request, effect_while_running, too_many_status}
use Rattle.gq_events.specs.History.{idle, session_step, turn_at}
use Rattle.gq_events.specs.Lifecycle.{Held, nothing_held, is_load, is_initialize, is_shutdown, is_stop, stated_in, stated, held_after, told, SessionsAreTold, StopsAreTold, IsOneTooMany, HasStopped, StopsHaveCauses, SessionsAreFolds}

abbrev turn_of : Event → Bool → Answer → Turn
turn_of e refused a = record { event = e; text_refused = refused; answer = a }

-- a session that has come this far, with these documents
abbrev at : Phase → Session → Held → Session
at phase s held = record {
  phase = phase;
  position_encoding = s.position_encoding;
  document_changes = s.document_changes;
  code_actions = s.code_actions;
  diagnostics = s.diagnostics;
  documents = held.documents;
  behind = held.behind;
}

-- it has not stopped
abbrev GoesOn : Session → Type 0
GoesOn s = s.phase ≡ Stopped → ⊥

-- ---- what has stopped

stays : (s : Session) (t : Turn) → s.phase ≡ Stopped → session_step s t ≡ s
stays s t h = ap (λ (p : Phase). session_after s (effect_of p s.documents t.event) (changed_by s (effect_of p s.documents t.event) t.text_refused)) h

stopped : (s : Session) (ts : List Turn) → s.phase ≡ Stopped → fold session_step s ts ≡ s
stopped s [] h = refl
stopped s (t ∷ ts) h = ap (λ (x : Session). fold session_step x ts) (stays s t h) ∙ stopped s ts h

stays_stopped : (s : Session) (ts : List Turn) → s.phase ≡ Stopped → (fold session_step s ts).phase ≡ Stopped
stays_stopped s ts h = ap (λ (x : Session). x.phase) (stopped s ts h) ∙ h

-- what goes on in the end has gone on at first
at_first : (s : Session) (ts : List Turn) → GoesOn (fold session_step s ts) → GoesOn s
at_first s ts goes h = goes (stays_stopped s ts h)

-- ---- one event

-- after a shutdown nothing changes
down_by : (s : Session) (held : Held) (e : Event) (refused : Bool) (a : Answer) → GoesOn (session_step (at Down s held) (turn_of e refused a)) → session_step (at Down s held) (turn_of e refused a) ≡ at Down s held
down_by s held (event.Message (incoming.Request id r)) refused a h = refl
down_by s held (event.Message (incoming.Notification (notification.DidOpen item))) refused a h = refl
down_by s held (event.Message (incoming.Notification (notification.DidChange params))) refused a h = refl
down_by s held (event.Message (incoming.Notification (notification.DidClose key))) refused a h = refl
down_by s held (event.Message (incoming.Notification (notification.Cancel id))) refused a h = refl
down_by s held (event.Message (incoming.Notification notification.Exit)) refused a h = absurd (h refl)
down_by s held (event.Message (incoming.Notification notification.Unknown)) refused a h = refl
down_by s held (event.Message (incoming.Invalid id)) refused a h = refl
down_by s held (event.Message incoming.Ignored) refused a h = refl
down_by s held (event.Message incoming.NotJson) refused a h = refl
down_by s held (event.Load load) refused a h = refl
down_by s held (event.Done done) refused a h = refl
down_by s held (event.End end) refused a h = absurd (h refl)

-- a change of a running session
change_by_test : (test : Bool) (s : Session) (held : Held) (c : Change) (refused : Bool)
    → session_after (at Running s held) (cond test (effect.Changes c) effect.Nothing) (changed_by (at Running s held) (cond test (effect.Changes c) effect.Nothing) refused)
    ≡ at Running s (cond test (record { documents = with_changed held.documents (key_of c) (changed s.position_encoding held.documents held.behind c refused); behind = behind_after held.documents held.behind c }) held)
change_by_test true s held c refused = refl
change_by_test false s held c refused = refl

-- what is loaded, by whether its document is open, and whether that is one too many
abbrev loads : Bool → Bool → Load → Effect
loads there many load = cond there (effect.LoadsBehind load) (cond many (effect.Stops too_many_status) (effect.Changes (change.Load load)))

abbrev with_load : Bool → Held → Load → Held
with_load there held load =
    cond (not there) (record { documents = with_changed held.documents load.key (loaded load); behind = held.behind })
    (record { documents = held.documents; behind = with_changed held.behind load.key (loaded load) })

load_by_test : (there many : Bool) (phase : Phase) (s : Session) (held : Held) (load : Load) (refused : Bool)
    → GoesOn (session_after (at phase s held) (loads there many load) (changed_by (at phase s held) (loads there many load) refused))
    → session_after (at phase s held) (loads there many load) (changed_by (at phase s held) (loads there many load) refused) ≡ at phase s (with_load there held load)
load_by_test true many phase s held load refused h = refl
load_by_test false true phase s held load refused h = absurd (h refl)
load_by_test false false phase s held load refused h = refl

-- while the session runs
abbrev running_then : Bool → Session → Held → Turn → Session
running_then shuts s held turn = cond shuts (at Down s held) (at Running s (held_after s.position_encoding held turn))

running_by : (s : Session) (held : Held) (e : Event) (refused : Bool) (a : Answer) → GoesOn (session_step (at Running s held) (turn_of e refused a))
    → session_step (at Running s held) (turn_of e refused a) ≡ running_then (is_shutdown (turn_of e refused a)) s held (turn_of e refused a)
running_by s held (event.Message (incoming.Request id (request.Initialize c))) refused a h = refl
running_by s held (event.Message (incoming.Request id request.Shutdown)) refused a h = refl
running_by s held (event.Message (incoming.Request id (request.Ask q))) refused a h = refl
running_by s held (event.Message (incoming.Request id request.InvalidParams)) refused a h = refl
running_by s held (event.Message (incoming.Request id request.Unknown)) refused a h = refl
running_by s held (event.Message (incoming.Notification (notification.DidOpen item))) refused a h = change_by_test (is_change held.documents (change.Open item)) s held (change.Open item) refused
running_by s held (event.Message (incoming.Notification (notification.DidChange params))) refused a h = change_by_test (is_change held.documents (change.Edit params)) s held (change.Edit params) refused
running_by s held (event.Message (incoming.Notification (notification.DidClose key))) refused a h = change_by_test (is_change held.documents (change.Close key)) s held (change.Close key) refused
running_by s held (event.Message (incoming.Notification (notification.Cancel id))) refused a h = refl
running_by s held (event.Message (incoming.Notification notification.Exit)) refused a h = absurd (h refl)
running_by s held (event.Message (incoming.Notification notification.Unknown)) refused a h = refl
running_by s held (event.Message (incoming.Invalid id)) refused a h = refl
running_by s held (event.Message incoming.Ignored) refused a h = refl
running_by s held (event.Message incoming.NotJson) refused a h = refl
running_by s held (event.Load load) refused a h = load_by_test (is_open load.key held.documents) (is_one_too_many held.documents load) Running s held load refused h
running_by s held (event.Done done) refused a h = refl
running_by s held (event.End end) refused a h = absurd (h refl)

-- before it has begun, what is loaded counts
abbrev fresh_held : Held → Turn → Held
fresh_held held turn = cond (is_load turn) (held_after default_encoding held turn) held

abbrev fresh_then : Option ClientCapabilities → Held → Turn → Session
fresh_then None held turn = at Fresh begun (fresh_held held turn)
fresh_then (Some c) held turn = begun_by (at Fresh begun held) c

fresh_by : (held : Held) (e : Event) (refused : Bool) (a : Answer) → GoesOn (session_step (at Fresh begun held) (turn_of e refused a))
    → session_step (at Fresh begun held) (turn_of e refused a) ≡ fresh_then (stated_in (turn_of e refused a)) held (turn_of e refused a)
fresh_by held (event.Message (incoming.Request id (request.Initialize c))) refused a h = refl
fresh_by held (event.Message (incoming.Request id request.Shutdown)) refused a h = refl
fresh_by held (event.Message (incoming.Request id (request.Ask q))) refused a h = refl
fresh_by held (event.Message (incoming.Request id request.InvalidParams)) refused a h = refl
fresh_by held (event.Message (incoming.Request id request.Unknown)) refused a h = refl
fresh_by held (event.Message (incoming.Notification (notification.DidOpen item))) refused a h = refl
fresh_by held (event.Message (incoming.Notification (notification.DidChange params))) refused a h = refl
fresh_by held (event.Message (incoming.Notification (notification.DidClose key))) refused a h = refl
fresh_by held (event.Message (incoming.Notification (notification.Cancel id))) refused a h = refl
fresh_by held (event.Message (incoming.Notification notification.Exit)) refused a h = absurd (h refl)
fresh_by held (event.Message (incoming.Notification notification.Unknown)) refused a h = refl
fresh_by held (event.Message (incoming.Invalid id)) refused a h = refl
fresh_by held (event.Message incoming.Ignored) refused a h = refl
fresh_by held (event.Message incoming.NotJson) refused a h = refl
fresh_by held (event.Load load) refused a h = load_by_test (is_open load.key held.documents) (is_one_too_many held.documents load) Fresh begun held load refused h
fresh_by held (event.Done done) refused a h = refl
fresh_by held (event.End end) refused a h = absurd (h refl)

-- ---- all that came

down : (s : Session) (held : Held) (ts : List Turn) → GoesOn (fold session_step (at Down s held) ts) → fold session_step (at Down s held) ts ≡ at Down s held
down s held [] h = refl
down s held (t ∷ ts) h =
    let step = down_by s held t.event t.text_refused t.answer (at_first (session_step (at Down s held) t) ts h) in
    let same = ap (λ (x : Session). fold session_step x ts) step in
    same ∙ down s held ts (subst GoesOn same h)

-- what a running session comes to
abbrev running_told : Session → Held → List Turn → Session
running_told s held ts = at (cond (list_any is_shutdown ts) Down Running) s (fold (held_after s.position_encoding) held (before_first is_shutdown ts))

take_one : (n : ℕ) (t : Turn) (ts : List Turn) → take (1 + n) (t ∷ ts) ≡ t ∷ take n ts
take_one n t ts = rw one-add refl

-- the first event, whether it is a shutdown or not
abbrev told_first : Bool → Session → Held → Turn → List Turn → Session
told_first shuts s held t ts =
    at (cond (shuts || list_any is_shutdown ts) Down Running) s
    (fold (held_after s.position_encoding) held (take (cond (not shuts) (1 + position_or_len is_shutdown ts) 0) (t ∷ ts)))

told_next : (s : Session) (held : Held) (t : Turn) (ts : List Turn) → running_told s (held_after s.position_encoding held t) ts ≡ told_first false s held t ts
told_next s held t ts =
    ap (λ (l : List Turn). at (cond (list_any is_shutdown ts) Down Running) s (fold (held_after s.position_encoding) held l)) (sym (take_one (position_or_len is_shutdown ts) t ts))

by_shutdown : (shuts : Bool) (s : Session) (held : Held) (t : Turn) (ts : List Turn) → GoesOn (fold session_step (running_then shuts s held t) ts)
    → (GoesOn (fold session_step (at Running s (held_after s.position_encoding held t)) ts)
    → fold session_step (at Running s (held_after s.position_encoding held t)) ts ≡ running_told s (held_after s.position_encoding held t) ts)
    → fold session_step (running_then shuts s held t) ts ≡ told_first shuts s held t ts
by_shutdown true s held t ts h rest = down s held ts h
by_shutdown false s held t ts h rest = rest h ∙ told_next s held t ts

running : (s : Session) (held : Held) (ts : List Turn) → GoesOn (fold session_step (at Running s held) ts) → fold session_step (at Running s held) ts ≡ running_told s held ts
running s held [] h = refl
running s held (t ∷ ts) h =
    let step = running_by s held t.event t.text_refused t.answer (at_first (session_step (at Running s held) t) ts h) in
    let same = ap (λ (x : Session). fold session_step x ts) step in
    same ∙ by_shutdown (is_shutdown t) s held t ts (subst GoesOn same h) (running s (held_after s.position_encoding held t) ts)

-- what is told: what the client stated first, if it did, what came before that, and behind it
abbrev told_at : Held → Bool → Option ClientCapabilities → (before rest : List Turn) → Session
told_at held began c before rest = record {
  phase = cond (list_any is_shutdown rest) Down (cond began Running Fresh);
  position_encoding = option_map_or encoding_for c default_encoding;
  document_changes = option_map_or (λ k. k.document_changes) c false;
  code_actions = option_map_or (λ k. k.code_actions) c false;
  diagnostics = option_map_or (λ k. k.publish_diagnostics) c false;
  documents = (fold (held_after (option_map_or encoding_for c default_encoding)) held (filter is_load before ++ before_first is_shutdown rest)).documents;
  behind = (fold (held_after (option_map_or encoding_for c default_encoding)) held (filter is_load before ++ before_first is_shutdown rest)).behind;
}

abbrev told_in : Held → List Turn → Session
told_in held ts = told_at held (list_any is_initialize ts) (stated ts) (before_first is_initialize ts) (drop (position_or_len is_initialize ts + 1) ts)

-- where the first event states this
abbrev first_stated : Option ClientCapabilities → List Turn → Option ClientCapabilities
first_stated c ts = cond (is_some c) c (stated ts)

abbrev place_from : Option ClientCapabilities → List Turn → ℕ
place_from c ts = cond (not (is_some c)) (1 + position_or_len is_initialize ts) 0

abbrev told_from : Held → Option ClientCapabilities → Turn → List Turn → Session
told_from held c t ts = told_at held (is_some c || list_any is_initialize ts) (first_stated c ts) (take (place_from c ts) (t ∷ ts)) (drop (place_from c ts + 1) (t ∷ ts))

drop_more : (n : ℕ) (t : Turn) (ts : List Turn) → drop (n + 1) ts ≡ drop (1 + n + 1) (t ∷ ts)
drop_more n t ts = simp (one-add, add-one)

-- what is loaded is told first
load_first : (held : Held) (e : Event) (refused : Bool) (a : Answer) (began : Bool) (c : Option ClientCapabilities) (before rest : List Turn)
    → told_at (fresh_held held (turn_of e refused a)) began c before rest ≡ told_at held began c (turn_of e refused a ∷ before) rest
load_first held (event.Load load) refused a began c before rest = refl
load_first held (event.Message m) refused a began c before rest = refl
load_first held (event.Done done) refused a began c before rest = refl
load_first held (event.End end) refused a began c before rest = refl

none_first : (held : Held) (t : Turn) (ts : List Turn) → told_in (fresh_held held t) ts ≡ told_from held None t ts
none_first held t ts =
    load_first held t.event t.text_refused t.answer (list_any is_initialize ts) (stated ts) (before_first is_initialize ts) (drop (position_or_len is_initialize ts + 1) ts)
    ∙ (ap (λ (l : List Turn). told_at held (list_any is_initialize ts) (stated ts) l (drop (position_or_len is_initialize ts + 1) ts)) (sym (take_one (position_or_len is_initialize ts) t ts))
    ∙ ap (λ (l : List Turn). told_at held (list_any is_initialize ts) (stated ts) (take (1 + position_or_len is_initialize ts) (t ∷ ts)) l) (drop_more (position_or_len is_initialize ts) t ts))

by_stated : (c : Option ClientCapabilities) (held : Held) (t : Turn) (ts : List Turn) → GoesOn (fold session_step (fresh_then c held t) ts)
    → (GoesOn (fold session_step (at Fresh begun (fresh_held held t)) ts) → fold session_step (at Fresh begun (fresh_held held t)) ts ≡ told_in (fresh_held held t) ts)
    → fold session_step (fresh_then c held t) ts ≡ told_from held c t ts
by_stated None held t ts h rest = rest h ∙ none_first held t ts
by_stated (Some c) held t ts h rest = running (begun_by begun c) held ts h

stated_by_first : (b : Bool) (t : Turn) (o : Option Turn) → cond b (stated_in t) (option_and_then stated_in o) ≡ option_and_then stated_in (cond b (Some t) o)
stated_by_first true t o = refl
stated_by_first false t o = refl

told_from_is : (held : Held) (t : Turn) (ts : List Turn) → told_from held (stated_in t) t ts ≡ told_in held (t ∷ ts)
told_from_is held t ts =
    ap (λ (c : Option ClientCapabilities). told_at held (is_initialize t || list_any is_initialize ts) c (take (place_from (stated_in t) ts) (t ∷ ts)) (drop (place_from (stated_in t) ts + 1) (t ∷ ts)))
    (stated_by_first (is_initialize t) t (find is_initialize ts))

fresh : (held : Held) (ts : List Turn) → GoesOn (fold session_step (at Fresh begun held) ts) → fold session_step (at Fresh begun held) ts ≡ told_in held ts
fresh held [] h = refl
fresh held (t ∷ ts) h =
    let step = fresh_by held t.event t.text_refused t.answer (at_first (session_step (at Fresh begun held) t) ts h) in
    let same = ap (λ (x : Session). fold session_step x ts) step in
    same ∙ (by_stated (stated_in t) held t ts (subst GoesOn same h) (fresh (fresh_held held t) ts) ∙ told_from_is held t ts)

pub sessions_are_told : SessionsAreTold
sessions_are_told past h = fresh nothing_held past h

-- ---- stops

-- `exit` and the end of the input stop
stops_exit : (phase : Phase) (s : Session) (held : Held) (refused : Bool) (a : Answer)
    → (session_step (at phase s held) (turn_of (event.Message (incoming.Notification notification.Exit)) refused a)).phase ≡ Stopped
stops_exit Fresh s held refused a = refl
stops_exit Running s held refused a = refl
stops_exit Down s held refused a = refl
stops_exit Stopped s held refused a = refl

stops_end : (phase : Phase) (s : Session) (held : Held) (e : Event) (refused : Bool) (a : Answer) → is_stop (turn_of e refused a) ≡ true
    → (session_step (at phase s held) (turn_of e refused a)).phase ≡ Stopped
stops_end phase s held (event.Message (incoming.Notification notification.Exit)) refused a h = stops_exit phase s held refused a
stops_end Fresh s held (event.End end) refused a h = refl
stops_end Running s held (event.End end) refused a h = refl
stops_end Down s held (event.End end) refused a h = refl
stops_end Stopped s held (event.End end) refused a h = refl
stops_end phase s held (event.Message (incoming.Request id r)) refused a h = absurd (cc)
stops_end phase s held (event.Message (incoming.Notification (notification.DidOpen item))) refused a h = absurd (cc)
stops_end phase s held (event.Message (incoming.Notification (notification.DidChange params))) refused a h = absurd (cc)
stops_end phase s held (event.Message (incoming.Notification (notification.DidClose key))) refused a h = absurd (cc)
stops_end phase s held (event.Message (incoming.Notification (notification.Cancel id))) refused a h = absurd (cc)
stops_end phase s held (event.Message (incoming.Notification notification.Unknown)) refused a h = absurd (cc)
stops_end phase s held (event.Message (incoming.Invalid id)) refused a h = absurd (cc)
stops_end phase s held (event.Message incoming.Ignored) refused a h = absurd (cc)
stops_end phase s held (event.Message incoming.NotJson) refused a h = absurd (cc)
stops_end phase s held (event.Load load) refused a h = absurd (cc)
stops_end phase s held (event.Done done) refused a h = absurd (cc)

abbrev held_in : Session → Held
held_in s = record { documents = s.documents; behind = s.behind }

by_stop : (b : Bool) (s : Session) (t : Turn) (ts : List Turn) → is_stop t ≡ b → (b || list_any is_stop ts) ≡ true
    → (list_any is_stop ts ≡ true → (fold session_step (session_step s t) ts).phase ≡ Stopped) → (fold session_step (session_step s t) ts).phase ≡ Stopped
by_stop true s t ts is h rest = stays_stopped (session_step s t) ts (stops_end s.phase s (held_in s) t.event t.text_refused t.answer is)
by_stop false s t ts is h rest = rest h

stops : (s : Session) (ts : List Turn) → list_any is_stop ts ≡ true → (fold session_step s ts).phase ≡ Stopped
stops s [] h = absurd (cc)
stops s (t ∷ ts) h = by_stop (is_stop t) s t ts refl h (λ k. stops (session_step s t) ts k)

pub stops_are_told : StopsAreTold
stops_are_told past h = stops begun past h

-- ---- causes of stops

-- what stops a session that goes on has this effect
by_effect : (s : Session) (e : Effect) (document : Option SessionDocument) → GoesOn s → (session_after s e document).phase ≡ Stopped → (status : ℕ) × (e ≡ effect.Stops status)
by_effect s (effect.Stops status) document goes h = (status, refl)
by_effect s effect.Nothing document goes h = absurd (goes h)
by_effect s (effect.Begins id capabilities) document goes h = absurd (cc)
by_effect s (effect.Refuses id why) document goes h = absurd (goes h)
by_effect s (effect.Asks id asked) document goes h = absurd (goes h)
by_effect s (effect.Changes c) document goes h = absurd (goes h)
by_effect s (effect.LoadsBehind load) document goes h = absurd (goes h)
by_effect s (effect.Cancels id) document goes h = absurd (goes h)
by_effect s (effect.ShutsDown id) document goes h = absurd (cc)
by_effect s (effect.Finishes done) document goes h = absurd (goes h)

-- a Load that is one too many of these documents
abbrev TooMany : List SessionDocument → Event → Type 0
TooMany documents (event.Load load) = is_one_too_many documents load ≡ true
TooMany documents (event.Message m) = ⊥
TooMany documents (event.Done done) = ⊥
TooMany documents (event.End end) = ⊥

abbrev Cause : List SessionDocument → Event → Bool → Answer → Type 0
Cause documents e refused a = (is_stop (turn_of e refused a) ≡ true) ⊎ TooMany documents e

request_goes : (phase : Phase) (id : Id) (r : Request) (status : ℕ) → effect_of_request phase id r ≡ effect.Stops status → ⊥
request_goes Fresh id (request.Initialize c) status h = cc
request_goes Fresh id request.Shutdown status h = cc
request_goes Fresh id (request.Ask q) status h = cc
request_goes Fresh id request.InvalidParams status h = cc
request_goes Fresh id request.Unknown status h = cc
request_goes Running id (request.Initialize c) status h = cc
request_goes Running id request.Shutdown status h = cc
request_goes Running id (request.Ask q) status h = cc
request_goes Running id request.InvalidParams status h = cc
request_goes Running id request.Unknown status h = cc
request_goes Down id r status h = cc
request_goes Stopped id r status h = cc

change_goes : (test : Bool) (c : Change) (status : ℕ) → cond test (effect.Changes c) effect.Nothing ≡ effect.Stops status → ⊥
change_goes true c status h = cc
change_goes false c status h = cc

exits_or : (phase : Phase) (documents : List SessionDocument) (n : Notification) (refused : Bool) (a : Answer) (status : ℕ)
    → effect_of phase documents (event.Message (incoming.Notification n)) ≡ effect.Stops status → is_stop (turn_of (event.Message (incoming.Notification n)) refused a) ≡ true
exits_or phase documents notification.Exit refused a status h = refl
exits_or Fresh documents (notification.DidOpen item) refused a status h = absurd (cc)
exits_or Fresh documents (notification.DidChange params) refused a status h = absurd (cc)
exits_or Fresh documents (notification.DidClose key) refused a status h = absurd (cc)
exits_or Fresh documents (notification.Cancel id) refused a status h = absurd (cc)
exits_or Fresh documents notification.Unknown refused a status h = absurd (cc)
exits_or Running documents (notification.DidOpen item) refused a status h = absurd (change_goes (is_change documents (change.Open item)) (change.Open item) status h)
exits_or Running documents (notification.DidChange params) refused a status h = absurd (change_goes (is_change documents (change.Edit params)) (change.Edit params) status h)
exits_or Running documents (notification.DidClose key) refused a status h = absurd (change_goes (is_change documents (change.Close key)) (change.Close key) status h)
exits_or Running documents (notification.Cancel id) refused a status h = absurd (cc)
exits_or Running documents notification.Unknown refused a status h = absurd (cc)
exits_or Down documents (notification.DidOpen item) refused a status h = absurd (cc)
exits_or Down documents (notification.DidChange params) refused a status h = absurd (cc)
exits_or Down documents (notification.DidClose key) refused a status h = absurd (cc)
exits_or Down documents (notification.Cancel id) refused a status h = absurd (cc)
exits_or Down documents notification.Unknown refused a status h = absurd (cc)
exits_or Stopped documents n refused a status h = absurd (cc)

load_goes : (there many : Bool) (load : Load) (status : ℕ) → loads there many load ≡ effect.Stops status → many ≡ true
load_goes true many load status h = absurd (cc)
load_goes false true load status h = refl
load_goes false false load status h = absurd (cc)

load_stops : (phase : Phase) (documents : List SessionDocument) (load : Load) (status : ℕ) → effect_of phase documents (event.Load load) ≡ effect.Stops status → is_one_too_many documents load ≡ true
load_stops Fresh documents load status h = load_goes (is_open load.key documents) (is_one_too_many documents load) load status h
load_stops Running documents load status h = load_goes (is_open load.key documents) (is_one_too_many documents load) load status h
load_stops Down documents load status h = absurd (cc)
load_stops Stopped documents load status h = absurd (cc)

request_never : (phase : Phase) (documents : List SessionDocument) (id : Id) (r : Request) (status : ℕ) → effect_of phase documents (event.Message (incoming.Request id r)) ≡ effect.Stops status → ⊥
request_never Fresh documents id r status h = request_goes Fresh id r status h
request_never Running documents id r status h = request_goes Running id r status h
request_never Down documents id r status h = request_goes Down id r status h
request_never Stopped documents id r status h = cc

invalid_never : (phase : Phase) (documents : List SessionDocument) (id : Option Id) (status : ℕ) → effect_of phase documents (event.Message (incoming.Invalid id)) ≡ effect.Stops status → ⊥
invalid_never Fresh documents id status h = cc
invalid_never Running documents id status h = cc
invalid_never Down documents id status h = cc
invalid_never Stopped documents id status h = cc

ignored_never : (phase : Phase) (documents : List SessionDocument) (status : ℕ) → effect_of phase documents (event.Message incoming.Ignored) ≡ effect.Stops status → ⊥
ignored_never Fresh documents status h = cc
ignored_never Running documents status h = cc
ignored_never Down documents status h = cc
ignored_never Stopped documents status h = cc

unread_never : (phase : Phase) (documents : List SessionDocument) (status : ℕ) → effect_of phase documents (event.Message incoming.NotJson) ≡ effect.Stops status → ⊥
unread_never Fresh documents status h = cc
unread_never Running documents status h = cc
unread_never Down documents status h = cc
unread_never Stopped documents status h = cc

done_never : (phase : Phase) (documents : List SessionDocument) (done : DoneOf) (status : ℕ) → effect_of phase documents (event.Done done) ≡ effect.Stops status → ⊥
done_never Fresh documents done status h = cc
done_never Running documents done status h = cc
done_never Down documents done status h = cc
done_never Stopped documents done status h = cc

caused : (phase : Phase) (documents : List SessionDocument) (e : Event) (refused : Bool) (a : Answer) (status : ℕ) → effect_of phase documents e ≡ effect.Stops status → Cause documents e refused a
caused phase documents (event.Message (incoming.Notification n)) refused a status h = inl (exits_or phase documents n refused a status h)
caused phase documents (event.Message (incoming.Request id r)) refused a status h = absurd (request_never phase documents id r status h)
caused phase documents (event.Message (incoming.Invalid id)) refused a status h = absurd (invalid_never phase documents id status h)
caused phase documents (event.Message incoming.Ignored) refused a status h = absurd (ignored_never phase documents status h)
caused phase documents (event.Message incoming.NotJson) refused a status h = absurd (unread_never phase documents status h)
caused phase documents (event.Load load) refused a status h = inr (load_stops phase documents load status h)
caused phase documents (event.Done done) refused a status h = absurd (done_never phase documents done status h)
caused phase documents (event.End end) refused a status h = inl refl

-- told by what came before
too_many_told : (before : List Turn) (documents : List SessionDocument) (e : Event) → documents ≡ (told before).documents → TooMany documents e → IsOneTooMany before e
too_many_told before documents (event.Load load) is h = subst (λ (ds : List SessionDocument). is_one_too_many ds load ≡ true) is h
too_many_told before documents (event.Message m) is h = h
too_many_told before documents (event.Done done) is h = h
too_many_told before documents (event.End end) is h = h

cause_here : (before : List Turn) (t : Turn) (ts : List Turn) → GoesOn (fold session_step begun before) → (session_step (fold session_step begun before) t).phase ≡ Stopped → HasStopped (before ++ t ∷ ts)
cause_here before t ts goes h =
    let s : Session = fold session_step begun before in
    let e : Effect = effect_of s.phase s.documents t.event in
    let stops = by_effect s e (changed_by s e t.text_refused) goes h in
    record {
      before = before;
      turn = t;
      after = ts;
      whole = refl;
      stops = ⊎_elim (λ k. inl k) (λ k. inr (too_many_told before s.documents t.event (ap (λ (x : Session). x.documents) (sessions_are_told before goes)) k))
          (caused s.phase s.documents t.event t.text_refused t.answer stops.0 stops.1);
    }

step_last : (before : List Turn) (t : Turn) → fold session_step begun (before ++ t ∷ []) ≡ session_step (fold session_step begun before) t
step_last before t = fold-append session_step begun before (t ∷ [])

mutual_first : (before : List Turn) (t : Turn) (ts : List Turn) → (before ++ t ∷ []) ++ ts ≡ before ++ t ∷ ts
mutual_first before t ts = append_assoc before (t ∷ []) ts

by_phase : (p : Phase) (before : List Turn) (t : Turn) (ts : List Turn) → (session_step (fold session_step begun before) t).phase ≡ p → GoesOn (fold session_step begun before)
    → (GoesOn (fold session_step begun (before ++ t ∷ [])) → HasStopped ((before ++ t ∷ []) ++ ts)) → HasStopped (before ++ t ∷ ts)
by_phase Stopped before t ts is goes rest = cause_here before t ts goes is
by_phase Fresh before t ts is goes rest =
    subst HasStopped (mutual_first before t ts) (rest (λ h. let now = ap (λ (x : Session). x.phase) (step_last before t) in let clash : Fresh ≡ Stopped = sym is ∙ (sym now ∙ h) in cc))
by_phase Running before t ts is goes rest =
    subst HasStopped (mutual_first before t ts) (rest (λ h. let now = ap (λ (x : Session). x.phase) (step_last before t) in let clash : Running ≡ Stopped = sym is ∙ (sym now ∙ h) in cc))
by_phase Down before t ts is goes rest =
    subst HasStopped (mutual_first before t ts) (rest (λ h. let now = ap (λ (x : Session). x.phase) (step_last before t) in let clash : Down ≡ Stopped = sym is ∙ (sym now ∙ h) in cc))

causes : (before ts : List Turn) → GoesOn (fold session_step begun before) → (fold session_step (fold session_step begun before) ts).phase ≡ Stopped → HasStopped (before ++ ts)
causes before [] goes h = absurd (goes h)
causes before (t ∷ ts) goes h =
    by_phase (session_step (fold session_step begun before) t).phase before t ts refl goes
    (λ on. causes (before ++ t ∷ []) ts on (ap (λ (x : Session). (fold session_step x ts).phase) (step_last before t) ∙ h))

pub stops_have_causes : StopsHaveCauses
stops_have_causes past h = causes [] past (λ k. cc) h

-- ---- places

take_nothing : (ts : List Turn) → take zero ts ≡ []
take_nothing [] = refl
take_nothing (t ∷ ts) = refl

pub sessions_are_folds : SessionsAreFolds
sessions_are_folds events zero h = sym (ap (fold session_step begun) (take_nothing events))
sessions_are_folds events (suc j) h =
    ap (λ (s : Session). session_step s (turn_at events j)) (sessions_are_folds events j (omega arith))
    ∙ sym (ap (fold session_step begun) (take-suc events j idle (omega arith)) ∙ fold-append session_step begun (take j events) (turn_at events j ∷ []))
