-- What is delivered, event after event.
use Rattle.std.proofs.Common.{◌≡◌, inl, inr, ℕ, ◌+◌, ◌<◌, ◌≤◌, Bool, true, false, List, [], ◌∷◌, ◌++◌, length, Option, Some, None, Result, Ok, Err, IfErr, IfSome, ap, sym, refl, ◌∙◌, subst, arith}
use Rattle.std.specs.Prelude.{is_none, is_some}
use Rattle.std.specs.Iterator.{Yields}
use Rattle.std.specs.Result.{IsErrAnd}
use Rattle.std.specs.Io.KnownBytes.{Appends}
use Rattle.std.proofs.iter.Next.{Yields-more}
use Rattle.std.proofs.lemmas.Grind.{flat_map-append}
use Rattle.std.proofs.lemmas.List.{append-nil, map-append, length-append}
use Rattle.gq_rpc.proofs.Sends.{Appends-nil, Appends-trans}
use Rattle.gq_events.specs.declared.event.Event.{Event}
use Rattle.gq_events.specs.declared.event.Out.{Out}
use Rattle.gq_events.specs.Rules.{Turn}
use Rattle.gq_events.specs.History.{outputs_behind}
use Rattle.gq_events.specs.Headline.{Headline}
use Rattle.gq_events.specs.Lifecycle.{load_in, is_load}
use Rattle.gq_events.specs.Laws.{Handing, handing_of, handings, StepsExist}
use Rattle.gq_events.specs.Machine.{State, Steps, DeskSteps, FitsTurn, FitsRun, start, after, writes, run, reached}
use Rattle.gq_events.proofs.Behind.{run-append, reached-append, FitsRun-append, answered_all, fits_all, next_on}
use Rattle.gq_desk.specs.declared.desk.DeskFault.{DeskFault}
use Rattle.gq_desk.specs.declared.desk.DeskFault.TheVariants as desk_fault
use Rattle.gq_desk.specs.declared.driving.DriveFault.{DriveFault}
use Rattle.gq_desk.specs.declared.driving.DriveFault.TheVariants as drive
use Rattle.gq_desk.specs.Faults.{of_desk}
use Rattle.gq_desk.specs.Frames.{frame_in, frames_in, stop_in}
use Rattle.gq_desk.specs.Driving.{Chain, Delivers, Breaks, AreExact, Drives, TakesTooMany, Fails, events_of, events_max}
use Rattle.gq_desk.specs.Standing.{AreAnswered, StandsFor}
use Rattle.gq_desk.specs.Helping.Turns.{TakesTurn, BreaksTurn, Known}
use Rattle.gq_desk.proofs.Runs.{stop_in-append}
use Rattle.gq_desk.proofs.Chains.{chain_on}

-- ---- what is delivered

module _ {H : Type 0} (takes : H → Handing → H → Type 0) where
  -- one after the other
  pub delivers_on : (h : H) (held : Option (List ℕ)) (xs : List Out) (mid : H) (m : Option (List ℕ)) (ys : List Out) (h' : H) (held' : Option (List ℕ)) → Delivers takes h held xs mid m → Delivers takes mid m ys h' held' → Delivers takes h held (xs ++ ys) h' held'
  delivers_on h held xs mid m ys h' held' c d = record {
    written = subst (Appends held held') (sym (flat_map-append frame_in xs ys)) (Appends-trans held m held' (frames_in xs) (frames_in ys) c.written d.written);
    handed = subst (λ (l : List Handing). Chain takes h l h') (sym (flat_map-append handing_of xs ys)) (chain_on takes h (handings xs) mid (handings ys) h' c.handed d.handed);
  }

-- a fault that `?` passes on, or makes of one of the desk
pub of_fault : {T : Type 0} (P : DriveFault → Type 0) (r : Result T DriveFault) (fault : DriveFault) → IsErrAnd r (λ e. e ≡ fault) → P fault → IfErr r P
of_fault P (Ok x) fault h p = tt
of_fault P (Err e) fault h p = subst P (sym h) p

some_same : {A : Type 0} (x y : A) → Some x ≡ Some y → x ≡ y
some_same x y h = cc

-- ---- what an event and the delivery of what it puts out come to

module _ {H : Type 0} (takes refuses : H → Handing → H → Type 0) where
  took : (s : State) (event : Event) (outs : List Out) (t : State) (h : H) (held : Option (List ℕ)) (h' : H) (held' : Option (List ℕ)) (stop : Option ℕ) → Steps s event outs t → Delivers takes h held outs h' held' → stop ≡ stop_in outs
      → (is_some stop ≡ true → is_some (load_in event) ≡ false) → TakesTurn takes (Some s) event h held (Some t) h' held' stop
  took s event outs t h held h' held' stop st d e k = record {
    before = s;
    was = refl;
    turn = record { event = event; text_refused = st.text_refused; answer = st.answer };
    of = refl;
    now = ap Some st.state;
    fits = st.fits;
    delivers = subst (λ (l : List Out). Delivers takes h held l h' held') st.outputs d;
    stops = e ∙ ap stop_in st.outputs;
    no_load = k;
  }

  pub took_turn : (desk : Option State) (event : Event) (outs : List Out) (desk' : Option State) (h : H) (held : Option (List ℕ)) (h' : H) (held' : Option (List ℕ)) (stop : Option ℕ) → DeskSteps desk event outs desk' → Delivers takes h held outs h' held' → stop ≡ stop_in outs
      → (is_some stop ≡ true → is_some (load_in event) ≡ false) → TakesTurn takes desk event h held desk' h' held' stop
  took_turn (Some s) event outs (Some t) h held h' held' stop st d e k = took s event outs t h held h' held' stop st d e k
  took_turn (Some s) event outs None h held h' held' stop st d e k = absurd st
  took_turn None event outs desk' h held h' held' stop st d e k = absurd st

  broke : (s : State) (event : Event) (outs : List Out) (t : State) (h : H) (held : Option (List ℕ)) (h' : H) (held' : Option (List ℕ)) (fault : DriveFault) → Steps s event outs t → Breaks takes refuses h held outs h' held' fault
      → (fault ≡ drive.TooMany → is_some (load_in event) ≡ true) → BreaksTurn takes refuses s event h held h' held' fault
  broke s event outs t h held h' held' fault st b k = record {
    turn = record { event = event; text_refused = st.text_refused; answer = st.answer };
    of = refl;
    fits = st.fits;
    breaks = subst (λ (l : List Out). Breaks takes refuses h held l h' held' fault) st.outputs b;
    too_many = k;
  }

  pub broke_turn : (desk : Option State) (event : Event) (outs : List Out) (desk' : Option State) (h : H) (held : Option (List ℕ)) (h' : H) (held' : Option (List ℕ)) (fault : DriveFault) → DeskSteps desk event outs desk' → Breaks takes refuses h held outs h' held' fault
      → (fault ≡ drive.TooMany → is_some (load_in event) ≡ true) → (s : State) → desk ≡ Some s → BreaksTurn takes refuses s event h held h' held' fault
  broke_turn (Some before) event outs (Some t) h held h' held' fault st b k s is =
      subst (λ (x : State). BreaksTurn takes refuses x event h held h' held' fault) (some_same before s is) (broke before event outs t h held h' held' fault st b k)
  broke_turn (Some before) event outs None h held h' held' fault st b k s is = absurd st
  broke_turn None event outs desk' h held h' held' fault st b k s is = absurd st

  -- nothing was put out
  broke_before : (s : State) (event : Event) (h : H) (held : Option (List ℕ)) → (outs : List Out) × (t : State) × Steps s event outs t → BreaksTurn takes refuses s event h held h held drive.NoMemory
  broke_before s event h held some = broke s event some.0 some.1 h held h held drive.NoMemory some.2 (inl (refl, refl)) (λ e. absurd (cc))

  -- the desk fails, or had failed before
  pub broke_step : {T : Type 0} → StepsExist → (desk : Option State) (event : Event) (h : H) (held : Option (List ℕ)) (r : Result T DeskFault) (fault : DeskFault) → r ≡ Err fault → (r ≡ Err desk_fault.Failed → desk ≡ None)
      → (s : State) → desk ≡ Some s → BreaksTurn takes refuses s event h held h held (of_desk fault)
  broke_step exist desk event h held r desk_fault.NoMemory is failed s was = broke_before s event h held (exist s event)
  broke_step exist desk event h held r desk_fault.Failed is failed s was = absurd (let none = failed is in cc)

-- ---- driving, from event to event

-- so many events were taken
abbrev pub Takes : {S : Type 0} → (S → Option Event → S → Type 0) → S → ℕ → S → Type 0
Takes steps it n it' = (events : List Event) × Yields steps it events it' × (length events ≡ n)

-- the events so far were driven, from where the desk stood
pub record Going {S H : Type 0} (steps : S → Option Event → S → Type 0) (takes : H → Handing → H → Type 0) (first : State) (it : S) (h : H) (held : Option (List ℕ)) (taken : ℕ) (it' : S) (desk : Option State) (h' : H) (held' : Option (List ℕ)) : Type 0 where
  pub turns : List Turn
  pub many : length turns ≡ taken
  pub took : Yields steps it (events_of turns) it'
  pub at : desk ≡ Some (reached first turns)
  pub delivers : Delivers takes h held (run first turns) h' held'
  pub none : stop_in (run first turns) ≡ None
  pub fits : FitsRun first turns

-- none was taken yet
pub going_first : {S H : Type 0} (steps : S → Option Event → S → Type 0) (takes : H → Handing → H → Type 0) (workers : ℕ) (earlier : List Turn) (it : S) (h : H) (held : Option (List ℕ)) (desk : Option State) → StandsFor workers earlier desk
    → Going steps takes (reached (start workers) earlier) it h held 0 it desk h held
going_first steps takes workers earlier it h held desk st = record {
  turns = [];
  many = refl;
  took = refl;
  at = st.reached_by;
  delivers = record { written = Appends-nil held; handed = refl };
  none = refl;
  fits = tt;
}

-- that the events so far were driven, and what follows
module _ {S H : Type 0} (steps : S → Option Event → S → Type 0) (takes refuses : H → Handing → H → Type 0) (known : Known) (workers : ℕ) (earlier : List Turn) (it : S) (h : H) (held : Option (List ℕ)) (taken : ℕ) (it' : S) (desk : Option State) (mid : H) (m : Option (List ℕ)) where
  -- the state that the desk was in first
  abbrev first : State
  first = reached (start workers) earlier

  all_fit : AreAnswered workers earlier → (turns : List Turn) → FitsRun first turns → FitsRun (start workers) (earlier ++ turns)
  all_fit a turns f = FitsRun-append (start workers) earlier turns (fits_all workers earlier a) f

  answered : AreAnswered workers earlier → (turns : List Turn) → FitsRun first turns → AreAnswered workers (earlier ++ turns)
  answered a turns f = answered_all workers (earlier ++ turns) (all_fit a turns f)

  exact : AreAnswered workers earlier → (turns : List Turn) → FitsRun first turns → AreExact workers (earlier ++ turns)
  exact a turns f = record {
    results = λ j within. known.results workers (earlier ++ turns) j (answered a turns f j within);
    modified = λ j within. known.modified workers (earlier ++ turns) j (answered a turns f j within);
  }

  safe : AreAnswered workers earlier → (turns : List Turn) → FitsRun first turns → Headline workers (earlier ++ turns)
  safe a turns f = λ j within. known.safe workers (earlier ++ turns) j (answered a turns f j within)

  run_more : (turns : List Turn) (turn : Turn) → run first (turns ++ turn ∷ []) ≡ run first turns ++ writes (reached first turns) turn
  run_more turns turn = run-append first turns (turn ∷ []) ∙ ap (λ (l : List Out). run first turns ++ l) (append-nil (writes (reached first turns) turn))

  no_stop : (turns : List Turn) → stop_in (run first turns) ≡ None → stop_in (outputs_behind workers earlier turns) ≡ None
  no_stop turns none = subst (λ (l : List Out). stop_in l ≡ None) (known.told workers earlier turns) none

  delivered : (turns : List Turn) → Delivers takes h held (run first turns) mid m → Delivers takes h held (outputs_behind workers earlier turns) mid m
  delivered turns d = subst (λ (l : List Out). Delivers takes h held l mid m) (known.told workers earlier turns) d

  -- what the turn behind them puts out
  last_told : (turns : List Turn) (turn : Turn) → writes (reached first turns) turn ≡ outputs_behind workers (earlier ++ turns) (turn ∷ [])
  last_told turns turn =
      ap (λ (s : State). writes s turn) (sym (reached-append (start workers) earlier turns))
      ∙ (sym (append-nil (writes (reached (start workers) (earlier ++ turns)) turn)) ∙ known.told workers (earlier ++ turns) (turn ∷ []))

  stands_for : (turns : List Turn) (desk' : Option State) → AreAnswered workers earlier → FitsRun first turns → desk' ≡ Some (reached first turns) → StandsFor workers (earlier ++ turns) desk'
  stands_for turns desk' a f is = record { reached_by = is ∙ ap Some (sym (reached-append (start workers) earlier turns)); answered = answered a turns f }

  module _ (g : Going steps takes first it h held taken it' desk mid m) where
    -- the state that the desk is in
    abbrev now : State
    now = reached first g.turns

    same_state : (before : State) → desk ≡ Some before → before ≡ now
    same_state before was = some_same before now (sym was ∙ g.at)

    further_fits : (turn : Turn) (before : State) → desk ≡ Some before → FitsTurn before turn → FitsRun first (g.turns ++ turn ∷ [])
    further_fits turn before was f = FitsRun-append first g.turns (turn ∷ []) g.fits (subst (λ (s : State). FitsTurn s turn) (same_state before was) f, tt)

    further_events : (turn : Turn) (event : Event) (it'' : S) → turn.event ≡ event → steps it' (Some event) it'' → Yields steps it (events_of (g.turns ++ turn ∷ [])) it''
    further_events turn event it'' of more =
        subst (λ (l : List Event). Yields steps it l it'') (sym (map-append (λ t. t.event) g.turns (turn ∷ [])))
        (Yields-more steps it (events_of g.turns) it' turn.event it'' g.took (subst (λ (e : Event). steps it' (Some e) it'') (sym of) more))

    further_outs : (turn : Turn) (before : State) → desk ≡ Some before → run first g.turns ++ writes before turn ≡ run first (g.turns ++ turn ∷ [])
    further_outs turn before was = ap (λ (s : State). run first g.turns ++ writes s turn) (same_state before was) ∙ sym (run_more g.turns turn)

    further_delivers : (turn : Turn) (before : State) (h' : H) (held' : Option (List ℕ)) → desk ≡ Some before → Delivers takes mid m (writes before turn) h' held' → Delivers takes h held (run first (g.turns ++ turn ∷ [])) h' held'
    further_delivers turn before h' held' was d =
        subst (λ (l : List Out). Delivers takes h held l h' held') (further_outs turn before was) (delivers_on takes h held (run first g.turns) mid m (writes before turn) h' held' g.delivers d)

    further_stop : (turn : Turn) (before : State) (stop : Option ℕ) → desk ≡ Some before → stop ≡ stop_in (writes before turn) → stop_in (run first (g.turns ++ turn ∷ [])) ≡ stop
    further_stop turn before stop was is =
        subst (λ (l : List Out). stop_in l ≡ stop) (further_outs turn before was) (stop_in-append (run first g.turns) (writes before turn) g.none ∙ sym is)

    further_state : (turn : Turn) (before : State) (desk' : Option State) → desk ≡ Some before → desk' ≡ Some (after before turn) → desk' ≡ Some (reached first (g.turns ++ turn ∷ []))
    further_state turn before desk' was is =
        is ∙ (ap (λ (s : State). Some (after s turn)) (same_state before was) ∙ ap Some (sym (reached-append first g.turns (turn ∷ []))))

    -- one event more
    pub going_on : (event : Event) (it'' : S) (desk' : Option State) (h' : H) (held' : Option (List ℕ)) (stop : Option ℕ) → steps it' (Some event) it'' → TakesTurn takes desk event mid m desk' h' held' stop → stop ≡ None
        → Going steps takes first it h held (taken + 1) it'' desk' h' held'
    going_on event it'' desk' h' held' stop more t goes = record {
      turns = g.turns ++ t.turn ∷ [];
      many = let so_far : length g.turns ≡ taken = g.many in omega (arith, length-append g.turns (t.turn ∷ []));
      took = further_events t.turn event it'' t.of more;
      at = further_state t.turn t.before desk' t.was t.now;
      delivers = further_delivers t.turn t.before h' held' t.was t.delivers;
      none = further_stop t.turn t.before None t.was (sym goes ∙ t.stops);
      fits = further_fits t.turn t.before t.was t.fits;
    }

    -- at a stop
    pub stops_at : AreAnswered workers earlier → taken < events_max → (event : Event) (it'' : S) (desk' : Option State) (h' : H) (held' : Option (List ℕ)) (stop : Option ℕ) (status : ℕ) → steps it' (Some event) it''
        → TakesTurn takes desk event mid m desk' h' held' stop → stop ≡ Some status → Drives steps takes workers earlier it h held it'' desk' h' held' status
    stops_at a short event it'' desk' h' held' stop status more t stops =
        let turns = g.turns ++ t.turn ∷ [] in
        let fits = further_fits t.turn t.before t.was t.fits in
        let d = further_delivers t.turn t.before h' held' t.was t.delivers in
        let told = known.told workers earlier turns in
        record {
          turns = turns;
          few = let so_far : length g.turns ≡ taken = g.many in omega (arith, length-append g.turns (t.turn ∷ []));
          stands = stands_for turns desk' a fits (further_state t.turn t.before desk' t.was t.now);
          ends = inl (
            g.turns,
            t.turn,
            refl,
            no_stop g.turns g.none,
            subst (λ (l : List Out). stop_in l ≡ Some status) told (further_stop t.turn t.before (Some status) t.was (sym stops ∙ t.stops)),
            t.no_load (ap is_some stops),
            further_events t.turn event it'' t.of more,
          );
          replies = subst (λ (l : List Out). Appends held held' (frames_in l)) told d.written;
          handed_on = subst (λ (l : List Out). Chain takes h (handings l) h') told d.handed;
          exact = exact a turns fits;
          headline = safe a turns fits;
        }

    -- at the end of the events
    pub ends_at : AreAnswered workers earlier → taken < events_max → (it'' : S) → steps it' None it'' → Drives steps takes workers earlier it h held it'' desk mid m 1
    ends_at a short it'' more =
        let d = delivered g.turns g.delivers in
        record {
          turns = g.turns;
          few = let so_far : length g.turns ≡ taken = g.many in omega arith;
          stands = stands_for g.turns desk a g.fits g.at;
          ends = inr (no_stop g.turns g.none, refl, (it', g.took, more));
          replies = d.written;
          handed_on = d.handed;
          exact = exact a g.turns g.fits;
          headline = safe a g.turns g.fits;
        }

    -- at a fault
    pub fails_at : AreAnswered workers earlier → (event : Event) (it'' : S) (desk' : Option State) (h' : H) (held' : Option (List ℕ)) (fault : DriveFault) → steps it' (Some event) it'' → desk' ≡ None
        → ((s : State) → desk ≡ Some s → BreaksTurn takes refuses s event mid m h' held' fault) → Fails steps takes refuses workers earlier it h held it'' desk' h' held' fault
    fails_at a event it'' desk' h' held' fault more failed broken =
        let b = broken now g.at in
        let turns = g.turns ++ b.turn ∷ [] in
        let fits = further_fits b.turn now g.at b.fits in
        inl (record {
          before = g.turns;
          last = b.turn;
          failed = failed;
          answered = answered a turns fits;
          no_stop = no_stop g.turns g.none;
          it_then = it';
          took = g.took;
          then = subst (λ (e : Event). steps it' (Some e) it'') (sym b.of) more;
          h_then = mid;
          held_then = m;
          delivers = delivered g.turns g.delivers;
          breaks = subst (λ (l : List Out). Breaks takes refuses mid m l h' held' fault) (last_told g.turns b.turn) b.breaks;
          too_many = b.too_many;
          exact = exact a turns fits;
          headline = safe a turns fits;
        })

    -- where so many events came
    pub too_many : AreAnswered workers earlier → taken ≡ events_max → TakesTooMany steps takes workers earlier it h held it' desk mid m drive.Device
    too_many a all = record {
      turns = g.turns;
      many = g.many ∙ all;
      stands = stands_for g.turns desk a g.fits g.at;
      no_stop = no_stop g.turns g.none;
      took = g.took;
      delivers = delivered g.turns g.delivers;
      is_fault = refl;
      exact = exact a g.turns g.fits;
      headline = safe a g.turns g.fits;
    }

-- a desk that stands for events has not failed
pub stands_not_failed : {P : Type 0} (workers : ℕ) (earlier : List Turn) (desk : Option State) → desk ≡ None → StandsFor workers earlier desk → P
stands_not_failed workers earlier desk none st = absurd (let is = st.reached_by in cc)

-- whether a desk has failed
pub none_where : (desk : Option State) (b : Bool) → b ≡ is_none desk → b ≡ true → desk ≡ None
none_where None b is h = refl
none_where (Some s) b is h = absurd (cc)

-- a desk that took a turn has not failed
pub has_state : {H : Type 0} {P : Type 0} (takes : H → Handing → H → Type 0) (desk : Option State) (event : Event) (h : H) (held : Option (List ℕ)) (desk' : Option State) (h' : H) (held' : Option (List ℕ)) (stop : Option ℕ)
    → TakesTurn takes desk event h held desk' h' held' stop → desk' ≡ None → P
has_state takes desk event h held desk' h' held' stop t none = absurd (let now = t.now in cc)

some_next : (desk : Option State) (before : State) (bound : ℕ) → desk ≡ Some before → IfSome desk (λ s. s.jobs.next ≤ bound) → before.jobs.next ≤ bound
some_next (Some s) before bound is h = subst (λ (x : State). x.jobs.next ≤ bound) (some_same s before is) h
some_next None before bound is h = absurd (cc)

-- the next number stays below the events that have come
pub next_kept : {H : Type 0} (takes : H → Handing → H → Type 0) (desk : Option State) (event : Event) (h : H) (held : Option (List ℕ)) (desk' : Option State) (h' : H) (held' : Option (List ℕ)) (stop : Option ℕ) (low taken : ℕ)
    → TakesTurn takes desk event h held desk' h' held' stop → IfSome desk (λ s. s.jobs.next ≤ low + taken) → IfSome desk' (λ s. s.jobs.next ≤ low + (taken + 1))
next_kept takes desk event h held desk' h' held' stop low taken t bound =
    let one = next_on t.before t.turn in
    let was = some_next desk t.before (low + taken) t.was bound in
    let now : (after t.before t.turn).jobs.next ≤ low + (taken + 1) = omega arith in
    subst (λ (d : Option State). IfSome d (λ s. s.jobs.next ≤ low + (taken + 1))) (sym t.now) now

pub takes_on : {S : Type 0} (steps : S → Option Event → S → Type 0) (it : S) (n : ℕ) (it' : S) (event : Event) (it'' : S) → Takes steps it n it' → steps it' (Some event) it'' → Takes steps it (n + 1) it''
takes_on steps it n it' event it'' t more =
    let many : length t.0 ≡ n = t.2 in
    (t.0 ++ event ∷ [], Yields-more steps it t.0 it' event it'' t.1 more, let longer = length-append t.0 (event ∷ []) in omega arith)
