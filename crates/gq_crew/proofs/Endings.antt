-- How a run ends, by the turns that were answered and what is left behind them.
use Rattle.std.proofs.Common.{◌≡◌, ◌≤◌, ◌⊎◌, inl, inr, ℕ, List, [], ◌∷◌, ◌++◌, map, length, Bool, true, false, Option, Some, None, ap, sym, refl, ◌∙◌, subst, append-nil, append_assoc}
use Rattle.std.specs.Io.KnownBytes.{Appends, Consumes}
use Rattle.std.proofs.lemmas.List.Concat.{flat_map-append}
use Rattle.gq_rpc.specs.Devices.{Sent}
use Rattle.gq_rpc.specs.Frames.{Cuts, scan_of}
use Rattle.gq_rpc.specs.declared.header.Scan.TheVariants.{Partial}
use Rattle.gq_rpc.proofs.Sends.{Appends-trans}
use Rattle.gq_events.specs.declared.event.LoadedContent.{LoadedContent}
use Rattle.gq_events.specs.declared.event.Out.{Out}
use Rattle.gq_events.specs.Rules.{Turn}
use Rattle.gq_events.specs.Lifecycle.{is_load}
use Rattle.gq_events.specs.History.{outputs}
use Rattle.gq_events.specs.Machine.{start, run, reached}
use Rattle.gq_desk.specs.Frames.{frame_in, frames_in, stop_in}
use Rattle.gq_desk.specs.Standing.{AreAnswered}
use Rattle.gq_crew.specs.Helping.Claims.{AnswersHold}
use Rattle.gq_crew.specs.declared.one_thread.Ended.{Ended}
use Rattle.gq_reader.specs.declared.fault.RunFault.TheVariants as fault
use Rattle.gq_reader.specs.Inputs.{Input, File, inputs_of}
use Rattle.gq_crew.specs.Output.{AreTurnsOf}
use Rattle.gq_reader.specs.Reading.{SourceAfter, FilesAfter, piece_max}
use Rattle.gq_crew.specs.Runs.{SinkAfter, Reached, StopsAt, AnswersTaken, Ends, AnswersEarlier, RunsListed, turns_max, is_more}
use Rattle.gq_crew.proofs.Alone.{outputs_more, goes_before}
use Rattle.gq_crew.proofs.Outputs.{Parts, parts_of, Sent-behind}
use Rattle.gq_reader.proofs.Comings.{EarlyOf, Ground}

-- what a front puts out is written first
frames_more : (turns more : List Turn) → frames_in (outputs 0 (turns ++ more)) ≡ frames_in (outputs 0 turns) ++ frames_in (run (reached (start 0) turns) more)
frames_more turns more = ap frames_in (outputs_more turns more) ∙ flat_map-append frame_in (outputs 0 turns) (run (reached (start 0) turns) more)

module _ {F : Type 0} (claims : AnswersHold) (reads : F → List ℕ → LoadedContent → F → Type 0) (has : List ℕ → Bool) (folder : F) (keys : List (List ℕ)) (files : FilesAfter)
    (first : Option (List ℕ)) (source : SourceAfter) (held : Option (List ℕ)) (sink : SinkAfter) where
  abbrev pub Listed : Ended → Type 0
  Listed ended = RunsListed reads has folder keys files first source held sink ended

  -- what stands in the bytes of all reads but the last one, whose turns are a front of these
  pub record Early (read : List ℕ) (front : List Turn) : Type 0 where
    pub earlier : List ℕ
    pub piece : List ℕ
    pub bodies : List (List ℕ)
    pub rest : List ℕ
    pub whole : read ≡ earlier ++ piece
    pub short : length piece ≤ piece_max
    pub cuts : Cuts earlier bodies rest
    pub partial : scan_of rest ≡ Partial
    pub parts : Parts reads folder (map File keys ++ inputs_of has bodies) front

  -- what a run has come to: the turns that were answered surely, and those of all that was taken
  pub record Base (front done : List Turn) (left : List Input) : Type 0 where
    pub read : List ℕ
    pub bodies : List (List ℕ)
    pub rest : List ℕ
    pub inputs : List Input
    pub took : Consumes first source.left read
    pub cuts : Cuts read bodies rest
    pub all : map File keys ++ inputs_of has bodies ≡ inputs ++ left
    pub are : AreTurnsOf reads folder inputs done
    pub early : (read ≡ []) ⊎ Early read front

  pub early_of : (sure : List Input) (read : List ℕ) (front : List Turn) → AreTurnsOf reads folder sure front → (read ≡ []) ⊎ EarlyOf has keys sure read → (read ≡ []) ⊎ Early read front
  early_of sure read front are (inl none) = inl none
  early_of sure read front are (inr e) = inr (record {
    earlier = e.earlier;
    piece = e.piece;
    bodies = e.bodies;
    rest = e.rest;
    whole = e.whole;
    short = e.short;
    cuts = e.cuts;
    partial = e.partial;
    parts = parts_of reads folder (map File keys ++ inputs_of has e.bodies) e.more front (subst (λ (l : List Input). AreTurnsOf reads folder l front) e.begins are);
  })

  abbrev pub base_of : (sure taken left : List Input) → (g : Ground has keys first source.left sure taken left) → (front done : List Turn) → AreTurnsOf reads folder sure front → AreTurnsOf reads folder taken done → Base front done left
  base_of sure taken left g front done sure_are are =
      record { read = g.read; bodies = g.bodies; rest = g.rest; inputs = taken; took = g.took; cuts = g.cuts; all = g.all; are = are; early = early_of sure g.read front sure_are g.early }

  -- ---- any ending

  module _ (front later done : List Turn) (left : List Input) (split : done ≡ front ++ later) (base : Base front done left) (answered : AreAnswered 0 done) (goes : stop_in (outputs 0 front) ≡ None) where
    abbrev pub reach : Reached
    reach = record { puts = outputs 0; turns = done; left = left; rest = base.rest; source = source; files = files; held = held; sink = sink }

    earlier_so : (more : List ℕ) → Appends held sink.held (frames_in (outputs 0 front) ++ more) → Early base.read front → AnswersEarlier (outputs 0) reads has folder keys done base.read held sink.held
    earlier_so more written e =
        let p = e.parts in
        let behind_front = run (reached (start 0) p.front) p.back in
        let puts : outputs 0 front ≡ outputs 0 p.front ++ behind_front = ap (outputs 0) p.whole ∙ outputs_more p.front p.back in
        let frames : frames_in (outputs 0 front) ≡ frames_in (outputs 0 p.front) ++ frames_in behind_front = ap frames_in puts ∙ flat_map-append frame_in (outputs 0 p.front) behind_front in
        record {
          earlier = e.earlier;
          piece = e.piece;
          bodies = e.bodies;
          rest = e.rest;
          front = p.front;
          later = p.back ++ later;
          more = frames_in behind_front ++ more;
          whole = e.whole;
          short = e.short;
          cuts = e.cuts;
          partial = e.partial;
          are_turns = p.are_turns;
          begins = split ∙ (ap (λ (l : List Turn). l ++ later) p.whole ∙ append_assoc p.front p.back later);
          no_stop = goes_before (outputs 0 p.front) behind_front (sym (ap stop_in puts) ∙ goes);
          written = subst (Appends held sink.held) (ap (λ (l : List ℕ). l ++ more) frames ∙ append_assoc (frames_in (outputs 0 p.front)) (frames_in behind_front) more) written;
        }

    earlier_of : (more : List ℕ) → Appends held sink.held (frames_in (outputs 0 front) ++ more) → (base.read ≡ []) ⊎ Early base.read front
        → (base.read ≡ []) ⊎ AnswersEarlier (outputs 0) reads has folder keys done base.read held sink.held
    earlier_of more written (inl none) = inl none
    earlier_of more written (inr e) = inr (earlier_so more written e)

    pub runs_of : (more : List ℕ) → Appends held sink.held (frames_in (outputs 0 front) ++ more) → (ended : Ended) → Ends reach ended.status ended.fault → Listed ended
    runs_of more written ended ends = record {
      read = base.read;
      bodies = base.bodies;
      rest = base.rest;
      inputs = base.inputs;
      left = left;
      turns = done;
      took = base.took;
      cuts = base.cuts;
      all = base.all;
      are_turns = base.are;
      answered = answered;
      exact = (claims done answered).0;
      headline = (claims done answered).1;
      earlier = earlier_of more written base.early;
      ends = ends;
    }

    nothing_more : Appends held sink.held (frames_in (outputs 0 front)) → Appends held sink.held (frames_in (outputs 0 front) ++ [])
    nothing_more written = subst (Appends held sink.held) (sym (append-nil (frames_in (outputs 0 front)))) written

    pub runs_without_memory : Appends held sink.held (frames_in (outputs 0 front)) → is_more later left ≡ true → Listed (record { status = 3; fault = Some fault.NoMemory })
    runs_without_memory written more =
        runs_of [] (nothing_more written) _ (refl, record { answered = front; behind = later; whole = split; wrote = record { no_stop = goes; written = written }; more = more })

  -- ---- where all turns were answered

  module _ (done : List Turn) (left : List Input) (base : Base done done left) (answered : AreAnswered 0 done) (goes : stop_in (outputs 0 done) ≡ None) (written : Appends held sink.held (frames_in (outputs 0 done))) where
    none_later : done ≡ done ++ []
    none_later = sym (append-nil done)

    abbrev pub ended_at : Reached
    ended_at = record { puts = outputs 0; turns = done; left = left; rest = base.rest; source = source; files = files; held = held; sink = sink }

    abbrev pub answers_taken : AnswersTaken ended_at
    answers_taken = record { no_stop = goes; written = written }

    pub runs_ended : (ended : Ended) → Ends ended_at ended.status ended.fault → Listed ended
    runs_ended ended ends = runs_of done [] done left none_later base answered goes [] (subst (Appends held sink.held) (sym (append-nil (frames_in (outputs 0 done)))) written) ended ends

    pub runs_lacking : is_more [] left ≡ true → Listed (record { status = 3; fault = Some fault.NoMemory })
    runs_lacking more = runs_without_memory done [] done left none_later base answered goes written more

    pub runs_without_file : files.failed ≡ true → (key : List ℕ) (behind : List Input) → left ≡ File key ∷ behind → Listed (record { status = 3; fault = Some fault.Device })
    runs_without_file failed key behind next = runs_ended _ (refl, inr (inr (inl (record { failed = failed; answers = answers_taken; key = key; behind = behind; next = next }))))

    pub runs_too_long : length done ≡ turns_max → Listed (record { status = 3; fault = Some fault.Device })
    runs_too_long many = runs_ended _ (refl, inr (inr (inr (record { answers = answers_taken; many = many }))))

  -- ---- at the last turn

  module _ (front : List Turn) (last : Turn) (left : List Input) (base : Base front (front ++ last ∷ []) left) (answered : AreAnswered 0 (front ++ last ∷ [])) (goes : stop_in (outputs 0 front) ≡ None) where
    stops_at : (by_load : Bool) (status : ℕ) → is_load last ≡ by_load → stop_in (outputs 0 (front ++ last ∷ [])) ≡ Some status → Appends held sink.held (frames_in (outputs 0 (front ++ last ∷ [])))
        → StopsAt (reach front (last ∷ []) (front ++ last ∷ []) left refl base answered goes) by_load status
    stops_at by_load status by stops written = record { before = front; last = last; whole = refl; is_by = by; goes = goes; stops = stops; written = written }

    last_written : Appends held sink.held (frames_in (outputs 0 (front ++ last ∷ []))) → Appends held sink.held (frames_in (outputs 0 front) ++ frames_in (run (reached (start 0) front) (last ∷ [])))
    last_written written = subst (Appends held sink.held) (frames_more front (last ∷ [])) written

    -- it stopped the session
    pub runs_stopped : (status : ℕ) → is_load last ≡ false → stop_in (outputs 0 (front ++ last ∷ [])) ≡ Some status → Appends held sink.held (frames_in (outputs 0 (front ++ last ∷ [])))
        → Listed (record { status = status; fault = None })
    runs_stopped status by stops written = runs_of front (last ∷ []) (front ++ last ∷ []) left refl base answered goes _ (last_written written) _ (inl (stops_at false status by stops written))

    -- it is a file too many
    pub runs_too_many : is_load last ≡ true → stop_in (outputs 0 (front ++ last ∷ [])) ≡ Some 3 → Appends held sink.held (frames_in (outputs 0 (front ++ last ∷ [])))
        → Listed (record { status = 3; fault = Some fault.TooMany })
    runs_too_many by stops written = runs_of front (last ∷ []) (front ++ last ∷ []) left refl base answered goes _ (last_written written) _ (refl, stops_at true 3 by stops written)

    -- the sink failed at it
    pub runs_unwritten : (outs : List Out) → outputs 0 (front ++ last ∷ []) ≡ outputs 0 front ++ outs → (held_then : Option (List ℕ)) → Appends held held_then (frames_in (outputs 0 front))
        → Sent held_then sink.held (frames_in outs) → sink.failed ≡ true → Listed (record { status = 3; fault = Some fault.Device })
    runs_unwritten outs puts_out held_then written sent failed =
        let done = front ++ last ∷ [] in
        let frames : frames_in (outputs 0 front) ++ frames_in outs ≡ frames_in (outputs 0 done) = sym (ap frames_in puts_out ∙ flat_map-append frame_in (outputs 0 front) outs) in
        runs_of front (last ∷ []) done left refl base answered goes sent.front (Appends-trans held held_then sink.held (frames_in (outputs 0 front)) sent.front written sent.written) _ (
          refl,
          inl (record { failed = failed; front = subst (Sent held sink.held) frames (Sent-behind held held_then sink.held (frames_in (outputs 0 front)) (frames_in outs) written sent) }),
        )
