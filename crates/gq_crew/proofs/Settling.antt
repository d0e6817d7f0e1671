-- How a run with workers ends, from what its reader and its desk came to.
use Rattle.std.proofs.Common.{◌≡◌, ◌⊎◌, inl, inr, ℕ, Bool, true, false, List, [], ◌∷◌, ◌++◌, map, Option, Some, None, ap, sym, refl, ◌∙◌, subst, append-nil, append_assoc, arith}
use Rattle.std.proofs.lemmas.List.{map-append}
use mathlib.Core.List.{IsPrefix}
use Rattle.gq_rpc.proofs.Sends.{Appends-nil, Consumes-nil}
use Rattle.gq_events.specs.declared.event.Event.{Event}
use Rattle.gq_events.specs.declared.event.Event.TheVariants as event
use Rattle.gq_events.specs.declared.event.InputEnd.{InputEnd}
use Rattle.gq_events.specs.declared.event.InputEnd.TheVariants.{Border}
use Rattle.gq_events.specs.declared.event.LoadedContent.{LoadedContent}
use Rattle.gq_events.specs.Rules.{Turn}
use Rattle.gq_events.specs.History.{outputs}
use Rattle.gq_events.specs.Lifecycle.{is_stop}
use Rattle.gq_desk.specs.Frames.{frames_in}
use Rattle.gq_desk.specs.Driving.{events_of}
use Rattle.gq_reader.specs.declared.fault.RunFault.{RunFault}
use Rattle.gq_reader.specs.declared.fault.RunFault.TheVariants as fault
use Rattle.gq_reader.specs.Inputs.{Input, Body, File, AreEventsOf}
use Rattle.gq_reader.specs.Reading.{SourceAfter, FilesAfter}
use Rattle.gq_crew.specs.declared.one_thread.Ended.{Ended}
use Rattle.gq_crew.specs.Runs.{SinkAfter}
use Rattle.gq_crew.specs.Helping.Settled.{settled}
use Rattle.gq_crew.specs.Crew.{AreTaken, Posts, DeskRuns, EndsDesk, is_exit, IsAllRead, IsDeskFault, EndsRun, RunsByThreads}

-- ---- the end of the input

-- it was read, where it is the last of what was taken
last_read : (events : List Event) (end : InputEnd) (read : List Event) → AreTaken (events ++ event.End end ∷ []) read → (front : List Event) × (read ≡ front ++ event.End end ∷ [])
last_read [] end read (inl t) = ([], t.1 ∙ ap (λ (l : List Event). event.End end ∷ l) t.2)
last_read [] end read (inr t) = let bad = t.1 in absurd (cc)
last_read (e ∷ events) end read (inl t) = let r = last_read events end t.0 t.2 in (e ∷ r.0, t.1 ∙ ap (λ (l : List Event). e ∷ l) r.1)
last_read (e ∷ events) end read (inr t) = last_read events end read t.3

-- no event of what is read is one
module _ {F : Type 0} (reads : F → List ℕ → LoadedContent → F → Type 0) where
  is_behind : (folder : F) (inputs : List Input) (events ending front more : List Event) (end : InputEnd) → AreEventsOf reads folder inputs events → front ++ event.End end ∷ more ≡ events ++ ending
      → (mid : List Event) × (mid ++ event.End end ∷ more ≡ ending)
  is_behind folder [] [] ending front more end are is = (front, is)
  is_behind folder [] (e ∷ events) ending front more end are is = absurd are
  is_behind folder (input ∷ inputs) [] ending front more end are is = absurd are
  is_behind folder (Body body ∷ inputs) (e ∷ events) ending [] more end are is = let bad = are.0 in absurd (cc)
  is_behind folder (File key ∷ inputs) (e ∷ events) ending [] more end are is = let bad = are.1 in absurd (cc)
  is_behind folder (Body body ∷ inputs) (e ∷ events) ending (x ∷ front) more end are is = is_behind folder inputs events ending front more end are.1 (cc)
  is_behind folder (File key ∷ inputs) (e ∷ events) ending (x ∷ front) more end are is = is_behind are.2 inputs events ending front more end are.4 (cc)

-- the only one of a list of one
is_one : (mid more : List Event) (end : InputEnd) → mid ++ event.End end ∷ more ≡ event.End Border ∷ [] → end ≡ Border
is_one [] more end is = cc
is_one (x ∷ []) more end is = absurd (cc)
is_one (x ∷ y ∷ mid) more end is = absurd (cc)

is_none : (mid more : List Event) (end : InputEnd) → mid ++ event.End end ∷ more ≡ [] → ⊥
is_none [] more end is = cc
is_none (x ∷ mid) more end is = cc

prefix_on : (a b c : List Event) → IsPrefix a b → IsPrefix b c → (more : List Event) × (a ++ more ≡ c)
prefix_on a b c p q = (p.0 ++ q.0, sym (append_assoc a p.0 q.0) ∙ (ap (λ (l : List Event). l ++ q.0) p.1 ∙ q.1))

module _ {F : Type 0} (reads : F → List ℕ → LoadedContent → F → Type 0) (has : List ℕ → Bool) (folder : F) (keys : List (List ℕ)) (files : FilesAfter) (left_before : Option (List ℕ)) (source : SourceAfter)
    (workers : ℕ) (held : Option (List ℕ)) (sink : SinkAfter) where
  -- where the end of the input was the last, and no fault was told, all was read
  at_end : (posted taken : List Event) → (p : Posts reads has folder keys files left_before source None posted) → IsPrefix taken posted → (front : List Turn) (last : Turn) (end : InputEnd) → last.event ≡ event.End end
      → AreTaken (events_of (front ++ last ∷ [])) taken → (last.event ≡ event.End Border) × IsAllRead p.left p.rest source
  at_end posted taken p begins front last end is are =
      let events : events_of (front ++ last ∷ []) ≡ events_of front ++ event.End end ∷ [] = map-append (λ (t : Turn). t.event) front (last ∷ []) ∙ ap (λ (e : Event). events_of front ++ e ∷ []) is in
      let r = last_read (events_of front) end taken (subst (λ (l : List Event). AreTaken l taken) events are) in
      let all = prefix_on taken posted (p.events ++ p.ending) begins p.posts in
      let here : r.0 ++ event.End end ∷ all.0 ≡ p.events ++ p.ending = sym (append_assoc r.0 (event.End end ∷ []) all.0) ∙ (ap (λ (l : List Event). l ++ all.0) (sym r.1) ∙ all.1) in
      let b = is_behind reads folder p.inputs p.events p.ending r.0 all.0 end p.are_events here in
      elim p.ends [
        | inl none ↦ absurd (is_none b.0 all.0 end (b.1 ∙ none))
        | inr all_read ↦ (is ∙ ap event.End (is_one b.0 all.0 end (b.1 ∙ all_read.0)), all_read.1)
      ]

  by_event : (posted taken : List Event) → (p : Posts reads has folder keys files left_before source None posted) → IsPrefix taken posted → (front : List Turn) (last : Turn) (e : Event) → last.event ≡ e
      → AreTaken (events_of (front ++ last ∷ [])) taken → is_stop last ≡ true → (is_exit last.event ≡ true) ⊎ ((last.event ≡ event.End Border) × IsAllRead p.left p.rest source)
  by_event posted taken p begins front last (event.End end) is are stops = inr (at_end posted taken p begins front last end is are)
  by_event posted taken p begins front last (event.Message m) is are stops = inl (exits_by last (event.Message m) is stops refl)
    where
      exits_by : (last : Turn) (e : Event) → last.event ≡ e → is_stop last ≡ true → (e ≡ event.Message m) → is_exit last.event ≡ true
      exits_by last e is stops same = let as_message : last.event ≡ event.Message m = is ∙ same in ap is_exit as_message ∙ (sym (ap (λ (x : Event). is_stop (record { event = x; text_refused = last.text_refused; answer = last.answer })) as_message) ∙ stops)
  by_event posted taken p begins front last (event.Load load) is are stops =
      let bad : false ≡ true = sym (ap (λ (x : Event). is_stop (record { event = x; text_refused = last.text_refused; answer = last.answer })) is) ∙ stops in absurd (cc)
  by_event posted taken p begins front last (event.Done done) is are stops =
      let bad : false ≡ true = sym (ap (λ (x : Event). is_stop (record { event = x; text_refused = last.text_refused; answer = last.answer })) is) ∙ stops in absurd (cc)

  -- ---- the ending

  abbrev Runs : Ended → Type 0
  Runs ended = RunsByThreads reads has folder keys files left_before source workers held sink ended

  ends_of : (told : Option RunFault) (posted taken : List Event) → (p : Posts reads has folder keys files left_before source told posted) → IsPrefix taken posted → (turns : List Turn) → AreTaken (events_of turns) taken → (status : ℕ) (fault : Option RunFault)
      → EndsDesk workers turns held sink status fault → (e : Ended) → e ≡ settled told (record { status = status; fault = fault }) → EndsRun workers turns p.events p.left p.rest source files held sink e.status e.fault
  ends_of told posted taken p begins turns are status (Some why) ends e is = subst (λ (x : Ended). EndsRun workers turns p.events p.left p.rest source files held sink x.status x.fault) (sym is) (ends.0, ends.1, inl ends.2)
  ends_of None posted taken p begins turns are status None stop e is =
      subst (λ (x : Ended). EndsRun workers turns p.events p.left p.rest source files held sink x.status x.fault) (sym is) (record {
        stop = stop;
        cause = by_event posted taken p begins stop.before stop.last stop.last.event refl (subst (λ (l : List Turn). AreTaken (events_of l) taken) stop.whole are) stop.is_stop;
      })
  ends_of (Some why) posted taken p begins turns are status None stop e is =
      subst (λ (x : Ended). EndsRun workers turns p.events p.left p.rest source files held sink x.status x.fault) (sym is)
      (refl, record { front = frames_in (outputs workers turns); back = []; whole = sym (append-nil (frames_in (outputs workers turns))); written = stop.written }, inr p.ends.1)

  pub settles : (told : Option RunFault) (posted taken : List Event) → Posts reads has folder keys files left_before source told posted → IsPrefix taken posted → (desk : Ended) → DeskRuns workers taken held sink desk
      → (e : Ended) → e ≡ settled told desk → Runs e
  settles told posted taken p begins desk d e is = record {
    told = told;
    posted = posted;
    posts = p;
    taken = taken;
    begins = begins;
    turns = d.turns;
    are_taken = d.are_taken;
    exact = d.exact;
    headline = d.headline;
    ends = ends_of told posted taken p begins d.turns d.are_taken desk.status desk.fault d.ends e is;
  }

-- ---- no run

module _ {F : Type 0} (reads : F → List ℕ → LoadedContent → F → Type 0) (has : List ℕ → Bool) (folder : F) (keys : List (List ℕ)) (files : FilesAfter) (source : SourceAfter) (workers : ℕ) (sink : SinkAfter) where
  none_posted : Posts reads has folder keys files source.left source None []
  none_posted = record {
    read = [];
    bodies = [];
    rest = [];
    inputs = [];
    left = map File keys ++ [];
    events = [];
    ending = [];
    took = Consumes-nil source.left;
    cuts = refl;
    all = refl;
    are_events = tt;
    ends = inl refl;
    posts = ([], refl);
  }

  -- where nothing was read and nothing written
  pub nothing_ran : (why : RunFault) → IsDeskFault why [] sink → RunsByThreads reads has folder keys files source.left source workers sink.held sink (record { status = 3; fault = Some why })
  nothing_ran why cause = record {
    told = None;
    posted = [];
    posts = none_posted;
    taken = [];
    begins = ([], refl);
    turns = [];
    are_taken = refl;
    exact = record { results = λ j within. absurd (omega arith); modified = λ j within. absurd (omega arith) };
    headline = λ j within. absurd (omega arith);
    ends = (refl, record { front = []; back = frames_in (outputs workers []); whole = refl; written = Appends-nil sink.held }, inl cause);
  }

-- where the board could not be opened
pub board_cause : (why : RunFault) (sink : SinkAfter) → (why ≡ fault.NoMemory) ⊎ (why ≡ fault.NoPlace) → IsDeskFault why [] sink
board_cause why sink (inl is) = subst (λ (w : RunFault). IsDeskFault w [] sink) (sym is) tt
board_cause why sink (inr is) = subst (λ (w : RunFault). IsDeskFault w [] sink) (sym is) refl

-- where workers could not be started
pub start_cause : (why : RunFault) (sink : SinkAfter) → (why ≡ fault.NoMemory) ⊎ (why ≡ fault.NoThread) → IsDeskFault why [] sink
start_cause why sink (inl is) = subst (λ (w : RunFault). IsDeskFault w [] sink) (sym is) tt
start_cause why sink (inr is) = subst (λ (w : RunFault). IsDeskFault w [] sink) (sym is) refl

-- of a folder that has the same documents
pub runs_with : {F : Type 0} {reads : F → List ℕ → LoadedContent → F → Type 0} (f h : List ℕ → Bool) → ((key : List ℕ) → f key ≡ h key) → {folder : F} {keys : List (List ℕ)} {files : FilesAfter} {left : Option (List ℕ)} {source : SourceAfter}
    {workers : ℕ} {held : Option (List ℕ)} {sink : SinkAfter} {ended : Ended} → RunsByThreads reads f folder keys files left source workers held sink ended → RunsByThreads reads h folder keys files left source workers held sink ended
runs_with {reads = reads} f h same {folder} {keys} {files} {left} {source} {workers} {held} {sink} {ended} runs =
    subst (λ (has : List ℕ → Bool). RunsByThreads reads has folder keys files left source workers held sink ended) (λ i. λ key. same key i) runs
