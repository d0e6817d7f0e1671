-- What a desk with workers comes to, from what driving it does.
use Rattle.std.proofs.Common.{◌≡◌, ◌⊎◌, inl, inr, ℕ, true, false, List, [], ◌∷◌, ◌++◌, Option, Some, None, ap, sym, refl, ◌∙◌, subst, append-nil, append_assoc, arith}
use Rattle.std.specs.Iterator.{Yields, YieldsThen}
use Rattle.std.specs.Io.KnownBytes.{Appends}
use Rattle.std.proofs.lemmas.List.{map-append}
use Rattle.std.proofs.lemmas.List.Concat.{flat_map-append}
use Rattle.gq_rpc.specs.Devices.{Sent}
use Rattle.gq_rpc.proofs.Sends.{Appends-trans}
use Rattle.gq_events.specs.declared.event.Event.{Event}
use Rattle.gq_events.specs.declared.event.Event.TheVariants as event
use Rattle.gq_events.specs.declared.event.Out.{Out}
use Rattle.gq_events.specs.Rules.{Turn}
use Rattle.gq_events.specs.History.{outputs, outputs_behind}
use Rattle.gq_events.specs.Laws.{Handing}
use Rattle.gq_events.specs.Headline.{Headline}
use Rattle.gq_events.specs.Lifecycle.{is_load}
use Rattle.gq_events.specs.Machine.{State}
use Rattle.gq_events.proofs.Behind.{outputs_go_on}
use Rattle.gq_desk.specs.Frames.{frame_in, frames_in, stop_in}
use Rattle.gq_desk.specs.Driving.{AreExact, events_of, Drives, FailsAt, TakesTooMany, Fails, Breaks}
use Rattle.gq_desk.specs.declared.driving.DriveFault.{DriveFault}
use Rattle.gq_desk.specs.declared.driving.DriveFault.TheVariants as drive
use Rattle.gq_reader.specs.declared.fault.RunFault.TheVariants as fault
use Rattle.gq_crew.specs.declared.one_thread.Ended.{Ended}
use Rattle.gq_crew.specs.Runs.{SinkAfter}
use Rattle.gq_crew.specs.Crew.{AreTaken, IsDeskFault, EndsDesk, DeskRuns}
use Rattle.gq_crew.specs.Helping.Ends.{fault_at}
use Rattle.gq_crew.specs.Helping.Delivered.{Box, Gives, Delivers}
use Rattle.gq_crew.specs.Helping.Sides.{DeskDrives}
use Rattle.gq_crew.proofs.Outputs.{Sent-behind}
use Rattle.gq_crew.proofs.Stopping.{last_stops}

-- one step more
pub yields_more : {X : Type 0} (steps : X → Option Event → X → Type 0) (a : X) (events : List Event) (mid : X) (e : Event) (b : X) → Yields steps a events mid → steps mid (Some e) b → Yields steps a (events ++ e ∷ []) b
yields_more steps a [] mid e b h s = (b, subst (λ x. steps x (Some e) b) (sym h) s, refl)
yields_more steps a (x ∷ events) mid e b h s = (h.0, h.1, yields_more steps h.0 events mid e b h.2 s)

-- ---- what is taken

pub record Took {I : Type 0} (a : Box I) (events : List Event) (b : Box I) : Type 0 where
  pub read : List Event
  pub same : b.on ≡ a.on
  pub collects : b.collected ≡ a.collected ++ read
  pub are : AreTaken events read

-- one more before them
took_more : {I : Type 0} (a : Box I) (e : Event) (mid : Box I) (events : List Event) (b : Box I) → Gives e a.collected mid.collected → mid.on ≡ a.on → Took mid events b → Took a (e ∷ events) b
took_more a e mid events b (inl g) on t = record {
  read = e ∷ t.read;
  same = t.same ∙ on;
  collects = t.collects ∙ (ap (λ (l : List Event). l ++ t.read) g ∙ append_assoc a.collected (e ∷ []) t.read);
  are = inl (t.read, refl, t.are);
}
took_more a e mid events b (inr g) on t = record {
  read = t.read;
  same = t.same ∙ on;
  collects = t.collects ∙ ap (λ (l : List Event). l ++ t.read) g.0;
  are = inr (g.1.0, g.1.1, g.1.2, t.are);
}

module _ {X I : Type 0} (steps : X → Option Event → X → Type 0) (box : X → Box I) (sees : (a : X) (r : Option Event) (b : X) → steps a r b → Delivers (box a) r (box b)) where
  pub took_all : (a : X) (events : List Event) (b : X) → Yields steps a events b → Took (box a) events (box b)
  took_all a [] b h = record {
    read = [];
    same = sym (ap (λ (x : X). (box x).on) h);
    collects = sym (ap (λ (x : X). (box x).collected) h) ∙ sym (append-nil (box a).collected);
    are = refl;
  }
  took_all a (e ∷ events) b h = let one = sees a (Some e) h.0 h.1 in took_more (box a) e (box h.0) events (box b) one.2 one.0 (took_all h.0 events b h.2)

  goes_on : (a : X) (events : List Event) (b : X) → Yields steps a events b → (box b).ended ≡ (box a).ended
  goes_on a [] b h = sym (ap (λ (x : X). (box x).ended) h)
  goes_on a (e ∷ events) b h = goes_on h.0 events b h.2 ∙ (sees a (Some e) h.0 h.1).1

-- ---- what is written

events_last : (front : List Turn) (last : Turn) → events_of (front ++ last ∷ []) ≡ events_of front ++ last.event ∷ []
events_last front last = map-append (λ turn. turn.event) front (last ∷ [])

frames_last : (workers : ℕ) (front : List Turn) (last : Turn) → frames_in (outputs workers (front ++ last ∷ [])) ≡ frames_in (outputs workers front) ++ frames_in (outputs_behind workers front (last ∷ []))
frames_last workers front last =
    ap frames_in (outputs_go_on workers front (last ∷ [])) ∙ flat_map-append frame_in (outputs workers front) (outputs_behind workers front (last ∷ []))

-- all of it is a front of it
all_sent : (held held' : Option (List ℕ)) (bytes : List ℕ) → Appends held held' bytes → Sent held held' bytes
all_sent held held' bytes written = record { front = bytes; back = []; whole = sym (append-nil bytes); written = written }

module _ {H : Type 0} (takes refuses : H → Handing → H → Type 0) (workers : ℕ) (front : List Turn) (last : Turn) (held held_then held' : Option (List ℕ)) (h h' : H) (written : Appends held held_then (frames_in (outputs workers front))) where
  abbrev outs : List Out
  outs = outputs_behind workers front (last ∷ [])

  abbrev All : List ℕ → Type 0
  All bytes = Sent held held' bytes

  to_last : All (frames_in (outputs workers front) ++ frames_in outs) → All (frames_in (outputs workers (front ++ last ∷ [])))
  to_last s = subst All (sym (frames_last workers front last)) s

  whole_of : Appends held_then held' (frames_in outs) → All (frames_in (outputs workers (front ++ last ∷ [])))
  whole_of later = to_last (all_sent held held' (frames_in (outputs workers front) ++ frames_in outs) (Appends-trans held held_then held' (frames_in (outputs workers front)) (frames_in outs) written later))

  pub breaks_sent : (why : DriveFault) → Breaks takes refuses h held_then outs h' held' why → All (frames_in (outputs workers (front ++ last ∷ [])))
  breaks_sent drive.NoMemory (inl b) =
      to_last (record { front = frames_in (outputs workers front); back = frames_in outs; whole = refl; written = subst (λ (o : Option (List ℕ)). Appends held o (frames_in (outputs workers front))) (sym b.1) written })
  breaks_sent drive.NoMemory (inr b) = whole_of b.0
  breaks_sent drive.Device b = to_last (Sent-behind held held_then held' (frames_in (outputs workers front)) (frames_in outs) written b.1)
  breaks_sent drive.Closed b = whole_of b.0
  breaks_sent drive.TooMany b = whole_of b.0.written
  breaks_sent drive.Failed b = absurd b

-- ---- the endings

-- it came to what it is said to have come to
pub said : {I : Type 0} (workers : ℕ) (on on' : I) (taken : List Event) (held : Option (List ℕ)) (sink : SinkAfter) (ended told : Ended) → told ≡ ended → DeskDrives workers on on' taken held sink ended
    → DeskDrives workers on on' taken held sink told
said workers on on' taken held sink ended told is d = subst (DeskDrives workers on on' taken held sink) (sym is) d

module _ {X I H : Type 0} (steps : X → Option Event → X → Type 0) (box : X → Box I) (sees : (a : X) (r : Option Event) (b : X) → steps a r b → Delivers (box a) r (box b)) (takes refuses : H → Handing → H → Type 0)
    (workers : ℕ) (it it' : X) (fresh : (box it).collected ≡ []) (going : (box it).ended ≡ false) (desk' : Option State) (h h' : H) (held : Option (List ℕ)) (sink : SinkAfter) where
  -- it kept its inbox, and came to this
  abbrev Came_to : Ended → Type 0
  Came_to ended = DeskDrives workers (box it).on (box it').on (box it').collected held sink ended

  collected_is : (events : List Event) → (t : Took (box it) events (box it')) → AreTaken events (box it').collected
  collected_is events t = subst (AreTaken events) (sym (t.collects ∙ ap (λ (l : List Event). l ++ t.read) fresh)) t.are

  abbrev Sends : List Turn → Type 0
  Sends turns = Sent held sink.held (frames_in (outputs workers turns))

  -- where nobody was left
  took_then : (events : List Event) → YieldsThen steps it events None it' → Took (box it) events (box it')
  took_then events y =
      let t = took_all steps box sees it events y.0 y.1 in
      let n = sees y.0 None it' y.2 in
      record { read = t.read; same = n.0 ∙ t.same; collects = n.2 ∙ t.collects; are = t.are }

  came_to : (turns : List Turn) (ended : Ended) → Took (box it) (events_of turns) (box it') → AreExact workers turns → Headline workers turns → EndsDesk workers turns held sink ended.status ended.fault → Came_to ended
  came_to turns ended t exact headline ends =
      (t.same, record { turns = turns; are_taken = collected_is (events_of turns) t; exact = exact; headline = headline; ends = ends })

  -- it stopped, where somebody was left
  pub drives : (status : ℕ) → (box it').ended ≡ false → Drives steps takes workers [] it h held it' desk' h' sink.held status → Came_to (record { status = status; fault = None })
  drives status on d = elim d.ends [
    | inl e ↦ came_to d.turns (record { status = status; fault = None }) (took_all steps box sees it (events_of d.turns) it' e.6) d.exact d.headline (record {
      before = e.0;
      last = e.1;
      whole = e.2;
      is_stop = last_stops workers e.0 e.1 status e.3 (subst (λ (t : List Turn). stop_in (outputs workers t) ≡ Some status) e.2 e.4) e.5;
      goes = e.3;
      stops = e.4;
      written = d.replies;
    })
    | inr e ↦ let none = (sees e.2.0 None it' e.2.2).1 in absurd (cc)
  ]

  -- it ended, where nobody was left
  pub closes : (status : ℕ) → Drives steps takes workers [] it h held it' desk' h' sink.held status → Came_to (record { status = 3; fault = Some fault.Closed })
  closes status d =
      let took : Took (box it) (events_of d.turns) (box it') = elim d.ends [ inl e ↦ took_all steps box sees it (events_of d.turns) it' e.6 | inr e ↦ took_then (events_of d.turns) e.2 ] in
      came_to d.turns (record { status = 3; fault = Some fault.Closed }) took d.exact d.headline (refl, all_sent held sink.held (frames_in (outputs workers d.turns)) d.replies, tt)

  -- ---- at a fault

  abbrev Why : DriveFault → List Turn → Type 0
  Why why turns = IsDeskFault (fault_at why) turns sink

  failed_at : (why : DriveFault) → (f : FailsAt steps takes refuses workers [] it h held it' desk' h' sink.held why) → Why why (f.before ++ f.last ∷ []) → Came_to (record { status = 3; fault = Some (fault_at why) })
  failed_at why f cause =
      let turns = f.before ++ f.last ∷ [] in
      let all : Yields steps it (events_of turns) it' =
      subst (λ (l : List Event). Yields steps it l it') (sym (events_last f.before f.last)) (yields_more steps it (events_of f.before) f.it_then f.last.event it' f.took f.then) in
      came_to turns (record { status = 3; fault = Some (fault_at why) }) (took_all steps box sees it (events_of turns) it' all) f.exact f.headline
      (refl, breaks_sent takes refuses workers f.before f.last held f.held_then sink.held f.h_then h' f.delivers.written why f.breaks, cause)

  pub too_many : TakesTooMany steps takes workers [] it h held it' desk' h' sink.held drive.Device → Came_to (record { status = 3; fault = Some fault.Device })
  too_many t =
      came_to t.turns (record { status = 3; fault = Some fault.Device }) (took_all steps box sees it (events_of t.turns) it' t.took) t.exact t.headline
      (refl, all_sent held sink.held (frames_in (outputs workers t.turns)) t.delivers.written, inr (let many = t.many in omega arith))

  at_device : Fails steps takes refuses workers [] it h held it' desk' h' sink.held drive.Device → (sink.failed ≡ true) ⊎ TakesTooMany steps takes workers [] it h held it' desk' h' sink.held drive.Device
      → Came_to (record { status = 3; fault = Some fault.Device })
  at_device f (inr t) = too_many t
  at_device (inl f) (inl bad) = failed_at drive.Device f (inl bad)
  at_device (inr t) (inl bad) = too_many t

  pub fails : (why : DriveFault) → Fails steps takes refuses workers [] it h held it' desk' h' sink.held why → (why ≡ drive.Device → (sink.failed ≡ true) ⊎ TakesTooMany steps takes workers [] it h held it' desk' h' sink.held drive.Device)
      → (why ≡ drive.Failed → ⊥) → Came_to (record { status = 3; fault = Some (fault_at why) })
  fails drive.NoMemory (inl f) device never = failed_at drive.NoMemory f tt
  fails drive.Closed (inl f) device never = failed_at drive.Closed f tt
  fails drive.TooMany (inl f) device never = failed_at drive.TooMany f (record { before = f.before; last = f.last; whole = refl; is_load = f.too_many refl })
  fails drive.Device f device never = at_device f (device refl)
  fails drive.Failed f device never = absurd (never refl)
  fails drive.NoMemory (inr t) device never = let bad = t.is_fault in absurd (cc)
  fails drive.Closed (inr t) device never = let bad = t.is_fault in absurd (cc)
  fails drive.TooMany (inr t) device never = let bad = t.is_fault in absurd (cc)
