-- How a run ends, from what driving the desk over a reader comes to.
use Rattle.std.proofs.Common.{◌≡◌, ◌⊎◌, inl, inr, ℕ, List, [], ◌∷◌, ◌++◌, map, length, Bool, true, false, Option, Some, None, ap, sym, refl, ◌∙◌, subst}
use Rattle.std.specs.Iterator.{Yields, YieldsThen}
use Rattle.std.specs.Prelude.{is_some}
use Rattle.std.specs.Option.{option_or}
use Rattle.std.specs.Io.KnownBytes.{Appends}
use Rattle.std.proofs.lemmas.List.{map-append}
use Rattle.gq_events.specs.declared.event.Event.{Event}
use Rattle.gq_events.specs.declared.event.LoadedContent.{LoadedContent}
use Rattle.gq_events.specs.Rules.{Turn}
use Rattle.gq_events.specs.Lifecycle.{is_load}
use Rattle.gq_events.specs.History.{outputs, outputs_behind}
use Rattle.gq_events.specs.Machine.{State}
use Rattle.gq_events.proofs.Behind.{outputs_go_on}
use Rattle.gq_events.specs.Laws.{Handing}
use Rattle.std.proofs.lemmas.List.Concat.{flat_map-append}
use Rattle.gq_rpc.specs.Devices.{Sent}
use Rattle.gq_rpc.proofs.Sends.{Appends-trans}
use Rattle.gq_desk.specs.Frames.{frame_in, frames_in, stop_in}
use Rattle.gq_desk.proofs.Runs.{stop_in-append}
use Rattle.gq_desk.specs.Standing.{AreAnswered}
use Rattle.gq_desk.specs.Driving.{events_of, Drives, FailsAt, TakesTooMany, Fails}
use Rattle.gq_desk.specs.declared.driving.DriveFault.{DriveFault}
use Rattle.gq_desk.specs.declared.driving.DriveFault.TheVariants as drive
use Rattle.gq_reader.specs.declared.reader.NoMore.{NoMore}
use Rattle.gq_reader.specs.declared.reader.NoMore.TheVariants as no_more
use Rattle.gq_crew.specs.declared.one_thread.Ended.{Ended}
use Rattle.gq_reader.specs.declared.fault.RunFault.{RunFault}
use Rattle.gq_reader.specs.declared.fault.RunFault.TheVariants as fault
use Rattle.gq_reader.specs.Inputs.{Input, File, inputs_of}
use Rattle.gq_crew.specs.Output.{AreTurnsOf}
use Rattle.gq_reader.specs.Reading.{SourceAfter, FilesAfter}
use Rattle.gq_crew.specs.Runs.{SinkAfter, RunsListed, is_more, turns_max}
use Rattle.gq_crew.specs.Helping.Claims.{AnswersHold}
use Rattle.gq_crew.specs.Helping.Ends.{fault_at, ended_as}
use Rattle.gq_reader.specs.Reader.{View, unread, with_bodies, with_told, Finds, Tells, fault_of}
use Rattle.gq_reader.specs.Loads.{IsToldOf}
use Rattle.gq_reader.specs.Coming.{Box, Comes, ComesSo, LacksLoad, LacksKey, LacksMessage}
use Rattle.gq_reader.proofs.Readers.{last_step, Stands, At-fills, At-body, not_failed}
use Rattle.gq_reader.proofs.Taken.{events_are}
use Rattle.gq_crew.proofs.Alone.{load_stops}
use Rattle.gq_reader.proofs.Comings.{Ground, Stage, waits, clean, owes, Waits, Clean, Owes, Came, Keeps, takes, took_all, clean_ground, owed_ground, waits_ground, came_ground, one_taken}
use Rattle.gq_crew.proofs.Endings.{Base, base_of, runs_without_memory, runs_lacking, runs_without_file, runs_too_long, runs_stopped, runs_too_many, runs_unwritten, runs_ended, answers_taken}

-- a list of turns, and their events
events_last : (front : List Turn) (last : Turn) → events_of (front ++ last ∷ []) ≡ events_of front ++ last.event ∷ []
events_last front last = map-append (λ turn. turn.event) front (last ∷ [])

pub pair_is : {A B : Type 0} {a c : A} {b d : B} → a ≡ c → b ≡ d → ◌≡◌ {A = A × B} (a, b) (c, d)
pair_is p q = λ i. (p i, q i)

-- of a folder that has the same documents
pub runs_with : {F : Type 0} {reads : F → List ℕ → LoadedContent → F → Type 0} (f h : List ℕ → Bool) → ((key : List ℕ) → f key ≡ h key) → {folder : F} {keys : List (List ℕ)} {files : FilesAfter} {left : Option (List ℕ)} {source : SourceAfter}
    {held : Option (List ℕ)} {sink : SinkAfter} {ended : Ended} → RunsListed reads f folder keys files left source held sink ended → RunsListed reads h folder keys files left source held sink ended
runs_with {reads = reads} f h same {folder} {keys} {files} {left} {source} {held} {sink} {ended} runs =
    subst (λ (has : List ℕ → Bool). RunsListed reads has folder keys files left source held sink ended) (λ i. λ key. same key i) runs

-- steps as plain data
module _ {X N F : Type 0} (reads : F → List ℕ → LoadedContent → F → Type 0) (failed : F → Bool) (has_of : F → List ℕ → Bool) (steps : X → Option Event → X → Type 0) (box : X → Box F) (name : X → N)
    (sees : (a : X) (r : Option Event) (b : X) → steps a r b → (name b ≡ name a) × Comes reads failed has_of (box a) r (box b)) where
  pub sees_all : (a : X) (events : List Event) (b : X) → Yields steps a events b → (name b ≡ name a) × Yields (Comes reads failed has_of) (box a) events (box b)
  sees_all a [] b h = (sym (ap name h), ap box h)
  sees_all a (e ∷ events) b h =
      let one = sees a (Some e) h.0 h.1 in
      let more = sees_all h.0 events b h.2 in
      (more.0 ∙ one.0, (box h.0, one.1, more.1))

module _ {F : Type 0} (reads : F → List ℕ → LoadedContent → F → Type 0) (failed : F → Bool) (has_of : F → List ℕ → Bool) (folder : F) (keys : List (List ℕ)) (start : SourceAfter) (sound : start.failed ≡ false)
    (claims : AnswersHold) (it : Box F) (in_folder : it.files ≡ folder) (begins : it.view ≡ unread start) (all_due : it.due ≡ keys) (untold : it.told ≡ None) (good : failed it.files ≡ false)
    (it' : Box F) (files : FilesAfter) (files_after : files.failed ≡ failed it'.files) (held : Option (List ℕ)) (sink : SinkAfter) where
  abbrev has : List ℕ → Bool
  has = has_of folder

  abbrev pub after : SourceAfter
  after = it'.view.source

  abbrev Came_so : List Input → List Event → Box F → Type 0
  Came_so taken events b = Came reads failed has_of folder keys start sound taken events b

  abbrev pub Runs_so : List Turn → List Turn → List Input → Type 0
  Runs_so front done left = Base claims reads has folder keys files start.left after held sink front done left

  -- the turns of what was taken
  turns_are : (taken : List Input) (turns : List Turn) (b : Box F) → Came_so taken (events_of turns) b → AreTurnsOf reads folder taken turns
  turns_are taken turns b m = events_are reads folder taken (events_of turns) b.files m.to

  -- ---- at an event

  -- the turns before the last event, and that event
  pub record Last (front : List Turn) (last : Turn) : Type 0 where
    pub left : List Input
    pub base : Runs_so front (front ++ last ∷ []) left
    pub sound_after : after.failed ≡ false
    pub untold_view : it'.view.told ≡ None
    pub keeps : Keeps failed has_of has it'

  pub last_at : (front : List Turn) (last : Turn) (mid : Box F) → Yields (Comes reads failed has_of) it (events_of front) mid → Comes reads failed has_of mid (Some last.event) it' → Last front last
  last_at front last mid y s =
      let m = took_all reads failed has_of folder keys start sound it (events_of front) mid in_folder begins all_due untold good y in
      let t = takes reads failed has_of folder keys start sound m.inputs (events_of front) mid last.event it' m.came s in
      let done = front ++ last ∷ [] in
      let came : Came_so (m.inputs ++ t.input ∷ []) (events_of done) it' = subst (λ (l : List Event). Came_so (m.inputs ++ t.input ∷ []) l it') (sym (events_last front last)) t.came in
      record {
        left = t.left;
        base = base_of claims reads has folder keys files start.left after held sink m.inputs (m.inputs ++ t.input ∷ []) t.left (one_taken has keys start.left after.left m.inputs t.left t.input t.ground) front done
            (turns_are m.inputs front mid m.came) (turns_are (m.inputs ++ t.input ∷ []) done it' came);
        sound_after = t.sound_then;
        untold_view = t.untold;
        keeps = t.came.keeps;
      }

  -- ---- the endings

  abbrev pub Listed_so : ℕ → Option RunFault → Type 0
  Listed_so status told = RunsListed reads has folder keys files start.left after held sink (ended_as status told)

  -- a run that ends so, and what has failed is told
  pub record Ended_so (status : ℕ) (told : Option RunFault) : Type 0 where
    pub runs : Listed_so status told
    pub tells : after.failed ≡ true → told ≡ Some fault.Device
    pub tells_files : failed it'.files ≡ true → told ≡ Some fault.Device

  never_failed : (told : Option RunFault) (b : Bool) → b ≡ false → b ≡ true → told ≡ Some fault.Device
  never_failed told b good bad = absurd (cc)

  ended_well : (status : ℕ) (told : Option RunFault) → Listed_so status told → after.failed ≡ false → failed it'.files ≡ false → Ended_so status told
  ended_well status told runs sound_after good_after = record { runs = runs; tells = never_failed told after.failed sound_after; tells_files = never_failed told (failed it'.files) good_after }

  -- what was told at the end
  abbrev pub told_then : Option RunFault
  told_then = option_or it'.told it'.view.told

  pub stopped : (turns front : List Turn) (last : Turn) (mid : Box F) (status : ℕ) → turns ≡ front ++ last ∷ [] → AreAnswered 0 turns → stop_in (outputs 0 front) ≡ None → stop_in (outputs 0 turns) ≡ Some status → is_load last ≡ false
      → Yields (Comes reads failed has_of) it (events_of front) mid → Comes reads failed has_of mid (Some last.event) it' → Appends held sink.held (frames_in (outputs 0 turns)) → Ended_so status told_then
  stopped turns front last mid status is answered goes stops by y s written =
      let l = last_at front last mid y s in
      let runs =
      runs_stopped claims reads has folder keys files start.left after held sink front last l.left l.base (subst (AreAnswered 0) is answered) goes status by
      (subst (λ (t : List Turn). stop_in (outputs 0 t) ≡ Some status) is stops) (subst (λ (t : List Turn). Appends held sink.held (frames_in (outputs 0 t))) is written) in
      let none : told_then ≡ None = ap (λ (o : Option RunFault). option_or o it'.view.told) l.keeps.untold ∙ l.untold_view in
      subst (Ended_so status) (sym none) (ended_well status None runs l.sound_after l.keeps.sound)

  -- ---- where nothing more came

  module _ (turns : List Turn) (answered : AreAnswered 0 turns) (goes : stop_in (outputs 0 turns) ≡ None) (written : Appends held sink.held (frames_in (outputs 0 turns))) (status : ℕ) where
    -- no memory for what came next
    lacking : (left : List Input) → Runs_so turns turns left → is_more [] left ≡ true → after.failed ≡ false → failed it'.files ≡ false → told_then ≡ Some fault.NoMemory → Ended_so status told_then
    lacking left base more sound_after good_after told =
        let runs = runs_lacking claims reads has folder keys files start.left after held sink turns left base answered goes written more in
        subst (Ended_so status) (sym told) (ended_well status (Some fault.NoMemory) runs sound_after good_after)

    -- why a file was not loaded
    file_lost : (key : List ℕ) (behind : List Input) → Runs_so turns turns (File key ∷ behind) → after.failed ≡ false → (before : Bool) → before ≡ false → IsToldOf it'.told before (failed it'.files) → Ended_so status told_then
    file_lost key behind base sound_after before good_before (inl t) =
        let runs = runs_without_file claims reads has folder keys files start.left after held sink turns (File key ∷ behind) base answered goes written (files_after ∙ t.1) key behind refl in
        subst (Ended_so status) (sym (ap (λ (o : Option RunFault). option_or o it'.view.told) t.0)) (record { runs = runs; tells = λ _. refl; tells_files = λ _. refl })
    file_lost key behind base sound_after before good_before (inr t) = lacking (File key ∷ behind) base refl sound_after (t.1 ∙ good_before) (ap (λ (o : Option RunFault). option_or o it'.view.told) t.0)

    module _ (one : status ≡ 1) (mid : Box F) (taken : List Input) (came : Came_so taken (events_of turns) mid) where
      abbrev base_so : (left : List Input) → Ground has keys start.left after.left taken taken left → Runs_so turns turns left
      base_so left g = base_of claims reads has folder keys files start.left after held sink taken taken left g turns turns (turns_are taken turns mid came) (turns_are taken turns mid came)

      -- a ground that is seen so is seen so now
      seen_now : (left : List Input) → it'.view ≡ mid.view → Ground has keys start.left mid.view.source.left taken taken left → Ground has keys start.left after.left taken taken left
      seen_now left same g = subst (λ (w : View). Ground has keys start.left w.source.left taken taken left) (sym same) g

      waits_on : Waits reads failed has_of folder keys start sound taken mid → LacksLoad reads failed has_of mid it' → Ended_so status told_then
      waits_on w x =
          let good_view : after.failed ≡ false = ap (λ (v : View). v.source.failed) (x.same_view ∙ w.same_view) ∙ sound in
          file_lost w.key (map File w.more) (base_so (map File (w.key ∷ w.more)) (seen_now (map File (w.key ∷ w.more)) x.same_view (waits_ground reads failed has_of folder keys start sound taken mid w)))
          good_view (failed mid.files) came.keeps.sound x.told

      owes_on : Owes reads failed has_of folder keys start sound taken mid → LacksLoad reads failed has_of mid it' → Ended_so status told_then
      owes_on o x =
          let left = File o.key ∷ inputs_of has mid.view.bodies in
          let good_view : mid.view.source.failed ≡ false = not_failed mid.view.no_more o.at.rest mid.view.source o.body mid.view.bodies o.at.finds in
          file_lost o.key (inputs_of has mid.view.bodies) (base_so left (seen_now left x.same_view (owed_ground reads failed has_of folder keys start sound taken mid o)))
          (ap (λ (w : View). w.source.failed) x.same_view ∙ good_view) (failed mid.files) came.keeps.sound x.told

      ground_at : (given bodies : List (List ℕ)) (rest : List ℕ) → taken ≡ map File keys ++ inputs_of has given → Stands start.left after.left given bodies rest → Ground has keys start.left after.left taken taken (inputs_of has bodies)
      ground_at given bodies rest all st = clean_ground reads failed has_of folder keys start sound after.left taken given bodies rest all st

      -- no memory for the key of the file behind a message
      lacks_key : Clean reads failed has_of folder keys start sound taken mid → LacksKey reads failed has_of mid it' → Ended_so status told_then
      lacks_key c x =
          let body = x.gives.body in
          let at = At-body start.left c.given mid.view x.message it'.view c.at x.gives in
          lacking (inputs_of has (body ∷ it'.view.bodies)) (base_so (inputs_of has (body ∷ it'.view.bodies)) (ground_at c.given (body ∷ it'.view.bodies) at.rest c.all at.stands)) refl
          (not_failed it'.view.no_more at.rest after body it'.view.bodies at.finds) (x.same_failed ∙ came.keeps.sound) (ap (λ (o : Option RunFault). option_or o it'.view.told) x.told)

      told_device : (why : NoMore) (rest : List ℕ) → Finds (Some why) rest after [] → after.failed ≡ true → fault_of why ≡ Some fault.Device
      told_device no_more.End rest f bad = let fine = f.0 in absurd (cc)
      told_device (no_more.Fault (fault.Frame why)) rest f bad = let fine = f.0 in absurd (cc)
      told_device (no_more.Fault fault.Device) rest f bad = refl
      told_device (no_more.Fault fault.NoMemory) rest f bad = absurd f
      told_device (no_more.Fault fault.TooDeep) rest f bad = absurd f
      told_device (no_more.Fault fault.TooMany) rest f bad = absurd f
      told_device (no_more.Fault fault.Closed) rest f bad = absurd f
      told_device (no_more.Fault fault.NoPlace) rest f bad = absurd f
      told_device (no_more.Fault fault.NoThread) rest f bad = absurd f

      ends_for : (base : Runs_so turns turns []) (why : NoMore) → Finds (Some why) base.rest after [] → Listed_so status (fault_of why)
      ends_for base no_more.End f =
          runs_ended claims reads has folder keys files start.left after held sink turns [] base answered goes written _
          (inr (record { one = one; answers = record { none_left = refl; answers = answers_taken claims reads has folder keys files start.left after held sink turns [] base answered goes written }; no_rest = f.2; tells = f.3 }))
      ends_for base (no_more.Fault (fault.Frame why)) f =
          runs_ended claims reads has folder keys files start.left after held sink turns [] base answered goes written _
          (refl, record { answers = record { none_left = refl; answers = answers_taken claims reads has folder keys files start.left after held sink turns [] base answered goes written }; is_fault = f.1 })
      ends_for base (no_more.Fault fault.Device) f =
          runs_ended claims reads has folder keys files start.left after held sink turns [] base answered goes written _
          (refl, inr (inl (record { failed = f.0; answers = record { none_left = refl; answers = answers_taken claims reads has folder keys files start.left after held sink turns [] base answered goes written }; partial = f.2 })))
      ends_for base (no_more.Fault fault.NoMemory) f = absurd f
      ends_for base (no_more.Fault fault.TooDeep) f = absurd f
      ends_for base (no_more.Fault fault.TooMany) f = absurd f
      ends_for base (no_more.Fault fault.Closed) f = absurd f
      ends_for base (no_more.Fault fault.NoPlace) f = absurd f
      ends_for base (no_more.Fault fault.NoThread) f = absurd f

      ground_end : (given : List (List ℕ)) (rest : List ℕ) → taken ≡ map File keys ++ inputs_of has given → Stands start.left after.left given [] rest → (g : Ground has keys start.left after.left taken taken []) × (g.rest ≡ rest)
      ground_end given rest all st = (clean_ground reads failed has_of folder keys start sound after.left taken given [] rest all st, refl)

      -- no message was given, and why
      told_by : (given bodies : List (List ℕ)) (rest : List ℕ) (no_more : Option NoMore) (told : Option RunFault) → taken ≡ map File keys ++ inputs_of has given → Stands start.left after.left given bodies rest → Finds no_more rest after bodies
          → Tells bodies no_more told → told_then ≡ told → failed it'.files ≡ false → Ended_so status told_then
      told_by given [] rest no_more told all st finds tells same good_after =
          let f : Finds (Some tells.0) rest after [] = subst (λ (o : Option NoMore). Finds o rest after []) tells.1 finds in
          let g = ground_end given rest all st in
          let runs = ends_for (base_so [] g.0) tells.0 (subst (λ (r : List ℕ). Finds (Some tells.0) r after []) (sym g.1) f) in
          subst (Ended_so status) (sym (same ∙ tells.2)) (record { runs = runs; tells = told_device tells.0 rest f; tells_files = never_failed (fault_of tells.0) (failed it'.files) good_after })
      told_by given (body ∷ bodies) rest no_more told all st finds tells same good_after =
          lacking (inputs_of has (body ∷ bodies)) (base_so (inputs_of has (body ∷ bodies)) (ground_at given (body ∷ bodies) rest all st)) refl (not_failed no_more rest after body bodies finds) good_after (same ∙ tells)

      lacks_message : Clean reads failed has_of folder keys start sound taken mid → LacksMessage reads failed has_of mid it' → Ended_so status told_then
      lacks_message c x =
          let n = x.gives in
          let at = At-fills start.left c.given mid.view (with_told (with_bodies it'.view n.bodies) mid.view.told) c.at n.fills in
          told_by c.given n.bodies at.rest it'.view.no_more it'.view.told c.all at.stands at.finds n.tells (ap (λ (o : Option RunFault). option_or o it'.view.told) (x.same_told ∙ came.keeps.untold)) (x.same_failed ∙ came.keeps.sound)

      ended_by : Stage reads failed has_of folder keys start sound taken mid → ComesSo reads failed has_of mid None it' → Ended_so status told_then
      ended_by (waits w) (inl x) = waits_on w x
      ended_by (waits w) (inr (inl x)) = let none = x.none_due in let due = w.is_due in absurd (cc)
      ended_by (waits w) (inr (inr x)) = let none = x.none_due in let due = w.is_due in absurd (cc)
      ended_by (clean c) (inl x) = let none = c.none_due in let due = x.due in absurd (cc)
      ended_by (clean c) (inr (inl x)) = lacks_key c x
      ended_by (clean c) (inr (inr x)) = lacks_message c x
      ended_by (owes o) (inl x) = owes_on o x
      ended_by (owes o) (inr (inl x)) = let none = x.none_due in let due = o.is_due in absurd (cc)
      ended_by (owes o) (inr (inr x)) = let none = x.none_due in let due = o.is_due in absurd (cc)

  pub ended : (turns : List Turn) (mid : Box F) (status : ℕ) → AreAnswered 0 turns → stop_in (outputs 0 turns) ≡ None → status ≡ 1 → Yields (Comes reads failed has_of) it (events_of turns) mid → Comes reads failed has_of mid None it'
      → Appends held sink.held (frames_in (outputs 0 turns)) → Ended_so status told_then
  ended turns mid status answered goes one y s written =
      let m = took_all reads failed has_of folder keys start sound it (events_of turns) mid in_folder begins all_due untold good y in
      ended_by turns answered goes written status one mid m.inputs m.came m.came.stage s.so

  -- ---- at a fault

  pub too_long : (turns : List Turn) → AreAnswered 0 turns → stop_in (outputs 0 turns) ≡ None → Appends held sink.held (frames_in (outputs 0 turns)) → length turns ≡ turns_max → Yields (Comes reads failed has_of) it (events_of turns) it'
      → Ended_so 3 (Some fault.Device)
  too_long turns answered goes written many y =
      let m = took_all reads failed has_of folder keys start sound it (events_of turns) it' in_folder begins all_due untold good y in
      let g = came_ground reads failed has_of folder keys start sound m.inputs (events_of turns) it' m.came in
      let are = turns_are m.inputs turns it' m.came in
      let base = base_of claims reads has folder keys files start.left after held sink m.inputs m.inputs g.0 g.1 turns turns are are in
      record { runs = runs_too_long claims reads has folder keys files start.left after held sink turns g.0 base answered goes written many; tells = λ bad. refl; tells_files = λ bad. refl }

  pub without_memory : (front : List Turn) (last : Turn) (mid : Box F) → Yields (Comes reads failed has_of) it (events_of front) mid → Comes reads failed has_of mid (Some last.event) it' → AreAnswered 0 (front ++ last ∷ [])
      → stop_in (outputs 0 front) ≡ None → Appends held sink.held (frames_in (outputs 0 front)) → Ended_so 3 (Some fault.NoMemory)
  without_memory front last mid y s answered goes written =
      let l = last_at front last mid y s in
      let runs = runs_without_memory claims reads has folder keys files start.left after held sink front (last ∷ []) (front ++ last ∷ []) l.left refl l.base answered goes written refl in
      ended_well 3 (Some fault.NoMemory) runs l.sound_after l.keeps.sound

  pub unwritten : (front : List Turn) (last : Turn) (mid : Box F) → Yields (Comes reads failed has_of) it (events_of front) mid → Comes reads failed has_of mid (Some last.event) it' → AreAnswered 0 (front ++ last ∷ [])
      → stop_in (outputs 0 front) ≡ None → (held_then : Option (List ℕ)) → Appends held held_then (frames_in (outputs 0 front)) → Sent held_then sink.held (frames_in (outputs_behind 0 front (last ∷ []))) → sink.failed ≡ true
      → Ended_so 3 (Some fault.Device)
  unwritten front last mid y s answered goes held_then written sent bad =
      let l = last_at front last mid y s in
      record {
        runs = runs_unwritten claims reads has folder keys files start.left after held sink front last l.left l.base answered goes (outputs_behind 0 front (last ∷ [])) (outputs_go_on 0 front (last ∷ [])) held_then written sent bad;
        tells = λ bad. refl;
        tells_files = λ bad. refl;
      }

  pub too_many : (front : List Turn) (last : Turn) (mid : Box F) → Yields (Comes reads failed has_of) it (events_of front) mid → Comes reads failed has_of mid (Some last.event) it' → AreAnswered 0 (front ++ last ∷ [])
      → stop_in (outputs 0 front) ≡ None → is_load last ≡ true → (held_then : Option (List ℕ)) → Appends held held_then (frames_in (outputs 0 front)) → Appends held_then sink.held (frames_in (outputs_behind 0 front (last ∷ [])))
      → is_some (stop_in (outputs_behind 0 front (last ∷ []))) ≡ true → Ended_so 3 (Some fault.TooMany)
  too_many front last mid y s answered goes by held_then first later stops =
      let l = last_at front last mid y s in
      let outs = outputs_behind 0 front (last ∷ []) in
      let puts : outputs 0 (front ++ last ∷ []) ≡ outputs 0 front ++ outs = outputs_go_on 0 front (last ∷ []) in
      let frames : frames_in (outputs 0 (front ++ last ∷ [])) ≡ frames_in (outputs 0 front) ++ frames_in outs = ap frames_in puts ∙ flat_map-append frame_in (outputs 0 front) outs in
      let runs =
      runs_too_many claims reads has folder keys files start.left after held sink front last l.left l.base answered goes by (ap stop_in puts ∙ (stop_in-append (outputs 0 front) outs goes ∙ load_stops front last by stops))
      (subst (Appends held sink.held) (sym frames) (Appends-trans held held_then sink.held (frames_in (outputs 0 front)) (frames_in outs) first later)) in
      ended_well 3 (Some fault.TooMany) runs l.sound_after l.keeps.sound

-- the same of a reader, whose steps are known by what they are of its plain data
module _ {X N F H : Type 0} (reads : F → List ℕ → LoadedContent → F → Type 0) (failed : F → Bool) (has_of : F → List ℕ → Bool) (steps : X → Option Event → X → Type 0) (box : X → Box F) (name : X → N)
    (sees : (a : X) (r : Option Event) (b : X) → steps a r b → (name b ≡ name a) × Comes reads failed has_of (box a) r (box b))
    (takes_hand refuses : H → Handing → H → Type 0) (never : (h : H) (x : Handing) (h' : H) → refuses h x h' → ⊥)
    (folder : F) (keys : List (List ℕ)) (start : SourceAfter) (sound : start.failed ≡ false) (claims : AnswersHold)
    (it it' : X) (in_folder : (box it).files ≡ folder) (begins : (box it).view ≡ unread start) (all_due : (box it).due ≡ keys) (untold : (box it).told ≡ None) (good : failed (box it).files ≡ false)
    (files : FilesAfter) (files_after : files.failed ≡ failed (box it').files) (desk' : Option State) (h h' : H) (held : Option (List ℕ)) (sink : SinkAfter) where
  -- a run that ends so, with the devices that it began with
  pub record Ended_in (status : ℕ) (told : Option RunFault) : Type 0 where
    pub same : name it' ≡ name it
    pub runs : RunsListed reads (has_of folder) folder keys files start.left (box it').view.source held sink (ended_as status told)
    pub tells : (box it').view.source.failed ≡ true → told ≡ Some fault.Device
    pub tells_files : failed (box it').files ≡ true → told ≡ Some fault.Device

  abbrev So : ℕ → Option RunFault → Type 0
  So status told = Ended_so reads failed has_of folder keys start sound claims (box it) in_folder begins all_due untold good (box it') files files_after held sink status told

  ended_in : (status : ℕ) (told : Option RunFault) → name it' ≡ name it → So status told → Ended_in status told
  ended_in status told same e = record { same = same; runs = e.runs; tells = e.tells; tells_files = e.tells_files }

  abbrev seen_all : (events : List Event) (mid : X) → Yields steps it events mid → (name mid ≡ name it) × Yields (Comes reads failed has_of) (box it) events (box mid)
  seen_all events mid y = sees_all reads failed has_of steps box name sees it events mid y

  abbrev pub told_last : Option RunFault
  told_last = option_or (box it').told (box it').view.told

  stopped_in : (turns front : List Turn) (last : Turn) (status : ℕ) → turns ≡ front ++ last ∷ [] → AreAnswered 0 turns → stop_in (outputs 0 front) ≡ None → stop_in (outputs 0 turns) ≡ Some status → is_load last ≡ false
      → Yields steps it (events_of turns) it' → Appends held sink.held (frames_in (outputs 0 turns)) → Ended_in status told_last
  stopped_in turns front last status is answered goes stops by y written =
      let all : Yields steps it (events_of front ++ last.event ∷ []) it' = subst (λ (es : List Event). Yields steps it es it') (ap events_of is ∙ events_last front last) y in
      let s = last_step steps it (events_of front) last.event it' all in
      let before = seen_all (events_of front) s.0 s.1 in
      let one = sees s.0 (Some last.event) it' s.2 in
      ended_in status told_last (one.0 ∙ before.0)
      (stopped reads failed has_of folder keys start sound claims (box it) in_folder begins all_due untold good (box it') files files_after held sink turns front last (box s.0) status is answered goes stops by before.1 one.1 written)

  input_ended_in : (turns : List Turn) (status : ℕ) → AreAnswered 0 turns → stop_in (outputs 0 turns) ≡ None → status ≡ 1 → YieldsThen steps it (events_of turns) None it' → Appends held sink.held (frames_in (outputs 0 turns))
      → Ended_in status told_last
  input_ended_in turns status answered goes one y written =
      let before = seen_all (events_of turns) y.0 y.1 in
      let none = sees y.0 None it' y.2 in
      ended_in status told_last (none.0 ∙ before.0)
      (ended reads failed has_of folder keys start sound claims (box it) in_folder begins all_due untold good (box it') files files_after held sink turns (box y.0) status answered goes one before.1 none.1 written)

  pub drives : (status : ℕ) → Drives steps takes_hand 0 [] it h held it' desk' h' sink.held status → Ended_in status told_last
  drives status d = elim d.ends [
    | inl e ↦ stopped_in d.turns e.0 e.1 status e.2 d.stands.answered e.3 e.4 e.5 e.6 d.replies
    | inr e ↦ input_ended_in d.turns status d.stands.answered e.0 e.1 e.2 d.replies
  ]

  -- ---- at a fault

  too_long_in : TakesTooMany steps takes_hand 0 [] it h held it' desk' h' sink.held drive.Device → Ended_in 3 (Some fault.Device)
  too_long_in t =
      let before = seen_all (events_of t.turns) it' t.took in
      ended_in 3 (Some fault.Device) before.0
      (too_long reads failed has_of folder keys start sound claims (box it) in_folder begins all_due untold good (box it') files files_after held sink t.turns t.stands.answered t.no_stop t.delivers.written t.many before.1)

  fails_for_memory : Fails steps takes_hand refuses 0 [] it h held it' desk' h' sink.held drive.NoMemory → Ended_in 3 (Some fault.NoMemory)
  fails_for_memory (inr t) = let bad = t.is_fault in absurd (cc)
  fails_for_memory (inl f) =
      let before = seen_all (events_of f.before) f.it_then f.took in
      let one = sees f.it_then (Some f.last.event) it' f.then in
      let same : sink.held ≡ f.held_then = elim f.breaks [ inl b ↦ b.1 | inr b ↦ absurd (never b.1.mid b.1.next h' b.1.refused) ] in
      ended_in 3 (Some fault.NoMemory) (one.0 ∙ before.0)
      (without_memory reads failed has_of folder keys start sound claims (box it) in_folder begins all_due untold good (box it') files files_after held sink f.before f.last (box f.it_then) before.1 one.1 f.answered f.no_stop
      (subst (λ (b : Option (List ℕ)). Appends held b (frames_in (outputs 0 f.before))) (sym same) f.delivers.written))

  unwritten_in : sink.failed ≡ true → FailsAt steps takes_hand refuses 0 [] it h held it' desk' h' sink.held drive.Device → Ended_in 3 (Some fault.Device)
  unwritten_in bad f =
      let before = seen_all (events_of f.before) f.it_then f.took in
      let one = sees f.it_then (Some f.last.event) it' f.then in
      ended_in 3 (Some fault.Device) (one.0 ∙ before.0)
      (unwritten reads failed has_of folder keys start sound claims (box it) in_folder begins all_due untold good (box it') files files_after held sink f.before f.last (box f.it_then) before.1 one.1 f.answered f.no_stop f.held_then f.delivers.written f.breaks.1 bad)

  fails_at_device : Fails steps takes_hand refuses 0 [] it h held it' desk' h' sink.held drive.Device → (sink.failed ≡ true) ⊎ TakesTooMany steps takes_hand 0 [] it h held it' desk' h' sink.held drive.Device → Ended_in 3 (Some fault.Device)
  fails_at_device f (inr t) = too_long_in t
  fails_at_device (inl f) (inl bad) = unwritten_in bad f
  fails_at_device (inr t) (inl bad) = too_long_in t

  fails_at_load : Fails steps takes_hand refuses 0 [] it h held it' desk' h' sink.held drive.TooMany → Ended_in 3 (Some fault.TooMany)
  fails_at_load (inr t) = let bad = t.is_fault in absurd (cc)
  fails_at_load (inl f) =
      let before = seen_all (events_of f.before) f.it_then f.took in
      let one = sees f.it_then (Some f.last.event) it' f.then in
      ended_in 3 (Some fault.TooMany) (one.0 ∙ before.0)
      (too_many reads failed has_of folder keys start sound claims (box it) in_folder begins all_due untold good (box it') files files_after held sink f.before f.last (box f.it_then) before.1 one.1 f.answered f.no_stop (f.too_many refl) f.held_then
      f.delivers.written f.breaks.0.written f.breaks.1)

  pub fails : (why : DriveFault) → Fails steps takes_hand refuses 0 [] it h held it' desk' h' sink.held why → (why ≡ drive.Device → (sink.failed ≡ true) ⊎ TakesTooMany steps takes_hand 0 [] it h held it' desk' h' sink.held drive.Device)
      → (why ≡ drive.Closed → ⊥) → (why ≡ drive.Failed → ⊥) → Ended_in 3 (Some (fault_at why))
  fails drive.NoMemory f device closed never_so = fails_for_memory f
  fails drive.Device f device closed never_so = fails_at_device f (device refl)
  fails drive.TooMany f device closed never_so = fails_at_load f
  fails drive.Closed f device closed never_so = absurd (closed refl)
  fails drive.Failed f device closed never_so = absurd (never_so refl)
